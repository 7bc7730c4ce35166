use Rattle.std.proofs.Common.{◌∙◌, rules, w64, ap, ◌≡◌, ℤ, pos}
use Rattle.std.specs.Prelude.{◌*ℤ◌}
use mir.Syntax.{w128}
use Rattle.std.proofs.lemmas.Int.{to_z-of_z}
use Rattle.std.specs.Int.RustNames.{FitsSigned}
use Rattle.cga_fraction.proofs.Order.{at_most_same, at_most_cross}
use Rattle.cga_fraction.proofs.fraction.Fraction.is_at_most.Goals as goal

pub returns-then-self-other : goal.returns-then-self-other
returns-then-self-other c =
    let f : FitsSigned w64 c.self.inside.numerator = search rules in
    let g : FitsSigned w64 c.other.inside.numerator = search rules in
    let e : c.self.inside.denominator ≡ c.other.inside.denominator = search rules in
    at_most_same c.args.self c.args.other _ _ c.other.inside.denominator _ _ (rw e at c.self.view_is) c.other.view_is (to_z-of_z w64 _ f) (to_z-of_z w64 _ g)

pub returns : goal.returns
returns c =
    let m : FitsSigned w64 c.self.inside.numerator = search rules in
    let n : FitsSigned w64 c.other.inside.numerator = search rules in
    let f : FitsSigned w128 c.product-left.result = search rules in
    let g : FitsSigned w128 c.product-right.result = search rules in
    at_most_cross _ _ c.self.inside.numerator c.other.inside.numerator _ _ _ _ c.self.view_is c.other.view_is c.self.invariant.positive c.other.invariant.positive
    (to_z-of_z w128 _ f ∙ c.product-left.ensures.value ∙ ap (λ (z : ℤ). z *ℤ pos c.other.inside.denominator) (to_z-of_z w64 _ m))
    (to_z-of_z w128 _ g ∙ c.product-right.ensures.value ∙ ap (λ (z : ℤ). z *ℤ pos c.self.inside.denominator) (to_z-of_z w64 _ n))
