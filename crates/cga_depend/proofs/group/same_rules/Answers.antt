use Rattle.cga_depend.proofs.ById.{agreed, agrees}
use Rattle.cga_depend.proofs.Groups.{apart}
use Rattle.cga_depend.proofs.group.same_rules.Goals as goal

pub returns-then-agree_at : goal.returns-then-agree_at
returns-then-agree_at c =
    let s = c.args.symbol in
    let old = c.args.old.now in
    let new = c.args.new.now in
    (λ h. agreed s old new (c.agree_at.ensures.0 c.if-agree_at.true) (c.agree_at-then-agree_at.ensures.0 h), λ e. c.agree_at-then-agree_at.ensures.1 (agrees s old new e new))

pub returns-else-agree_at : goal.returns-else-agree_at
returns-else-agree_at c =
    let s = c.args.symbol in
    let old = c.args.old.now in
    let new = c.args.new.now in
    (λ h. absurd (apart c.agree_at.result h c.if-agree_at.false), λ e. c.agree_at.ensures.1 (agrees s old new e old))
