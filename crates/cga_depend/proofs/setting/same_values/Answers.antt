use Rattle.cga_check.specs.Groups.{group}
use Rattle.cga_depend.proofs.Ends.{agree_apart}
use Rattle.cga_depend.proofs.setting.same_values.Goals as goal

pub returns-then-same_in_order : goal.returns-then-same_in_order
returns-then-same_in_order c =
    let old = c.args.old.now.attributes in
    let new = c.args.new.now.attributes in
    let agree = agree_apart (group c.args.new.now c.args.symbol) old new c.args.apart.old.now c.args.apart.new.now c.requires (c.same_in_order.ensures c.if-same_in_order.true) in
    (λ t. agree, λ h. c.if-same_in_order.true)
