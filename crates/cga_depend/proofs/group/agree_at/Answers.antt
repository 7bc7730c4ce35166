use Rattle.std.proofs.Common.{◌≡◌, true, sym, ◌∙◌}
use Rattle.cga_check.specs.Groups.{is_of}
use Rattle.cga_depend.specs.Agreement.{AgreesAt}
use Rattle.cga_depend.proofs.Lists.{all_more, all_end}
use Rattle.cga_depend.proofs.Groups.{apart}
use Rattle.cga_depend.proofs.group.agree_at.Goals.{else-eq-via-then-eq+else-not-agree, else-eq-via-else-eq}
use Rattle.cga_depend.proofs.group.agree_at.Goals as goal

pub loop-entry-preserved : goal.loop-entry-preserved
loop-entry-preserved c =
    let e = c.entry-item.result in
    let here : AgreesAt c.args.symbol c.args.old.now c.args.new.now e = elim c.else-eq.branch [
      | else-eq-via-then-eq+else-not-agree w ↦ λ (is : is_of c.args.symbol e ≡ true). w.agree.ensures.0 w.if-not-agree.false
      | else-eq-via-else-eq w ↦ λ (is : is_of c.args.symbol e ≡ true). absurd (apart (is_of c.args.symbol e) is (sym c.eq.ensures ∙ w.if-eq.false))
    ] in
    all_more (AgreesAt c.args.symbol c.args.old.now c.args.new.now) c.args.ids.now c.loop-entry.entry-index e c.loop-entry-test.true c.entry-item.is c.loop-entry.invariant here

pub returns : goal.returns
returns c = all_end (AgreesAt c.args.symbol c.args.old.now c.args.new.now) c.args.ids.now c.loop-entry.entry-index c.loop-entry-test.false c.loop-entry.invariant
