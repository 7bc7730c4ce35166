use Rattle.std.proofs.Common.{[], ◌∷◌, ap, arith, length, length-append, sym, ◌∙◌}
use Rattle.cga_shape.specs.Runs.{joined}
use Rattle.cga_shape.proofs.Runs.{joined-last}
use Rattle.cga_shape.proofs.lots.Lots.with_last.Goals as goal

pub returns : goal.returns
returns c =
    ap joined (c.in_ok-from_vec.ensures ∙ c.in_ok-push.ensures.items)
    ∙ joined-last c.args.self.now c.begun.new.runs.items c.in_ok-last.last c.in_ok-run_and.field-0 c.args.lot
    (sym c.runs.ensures ∙ (sym (ap joined c.in_ok-runs.ensures) ∙ c.in_ok-last.ensures)) c.in_ok-run_and.ensures

pub invariant_of-result : goal.invariant_of-result
invariant_of-result c =
    let made =
    ap joined (c.in_ok-from_vec.ensures ∙ c.in_ok-push.ensures.items)
    ∙ joined-last c.args.self.now c.begun.new.runs.items c.in_ok-last.last c.in_ok-run_and.field-0 c.args.lot
    (sym c.runs.ensures ∙ (sym (ap joined c.in_ok-runs.ensures) ∙ c.in_ok-last.ensures)) c.in_ok-run_and.ensures in
    let sum = length-append c.args.self.now (c.args.lot ∷ []) in
    omega (arith, sum, c.self.invariant, ap length c.self.view_is, ap length made, c.in-Some.ensures)
