use Rattle.cga_depend.proofs.Groups.{group_then, group_else}
use Rattle.cga_depend.proofs.group.same_group.Goals as goal

pub returns-then-same_priority : goal.returns-then-same_priority
returns-then-same_priority c =
    group_then c.args.symbol c.args.old.now c.args.new.now c.as_slice.result.now c.as_slice-then-same_priority.result.now c.symbol_priority.result c.symbol_priority-2.result c.same_rules.result c.symbol_priority.ensures c.symbol_priority-2.ensures (c.same_priority.ensures.0 c.if-same_priority.true) c.as_slice.ensures c.as_slice-then-same_priority.ensures c.same_rules.ensures

pub returns-else-same_priority : goal.returns-else-same_priority
returns-else-same_priority c =
    group_else c.args.symbol c.args.old.now c.args.new.now c.symbol_priority.result c.symbol_priority-2.result c.same_priority.result c.symbol_priority.ensures c.symbol_priority-2.ensures c.same_priority.ensures c.if-same_priority.false
