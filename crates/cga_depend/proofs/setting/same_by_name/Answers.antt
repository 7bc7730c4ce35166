use Rattle.cga_check.specs.Groups.{group}
use Rattle.cga_depend.proofs.Values.{values_decided}
use Rattle.cga_depend.proofs.setting.same_by_name.Goals as goal

pub returns-then-same_among : goal.returns-then-same_among
returns-then-same_among c =
    values_decided (group c.args.new.now c.args.symbol) c.args.old.now c.args.new.now c.as_slice.result.now c.as_slice-then-same_among.result.now c.same_among-then-same_among.result c.as_slice.ensures c.as_slice-then-same_among.ensures (c.same_among.ensures.0 c.if-same_among.true) c.same_among-then-same_among.ensures
