use Rattle.std.proofs.Common.{◌∙◌, rules, w64, ◌≡◌, ap, ℤ, pos}
use Rattle.std.specs.Prelude.{◌*ℤ◌}
use Rattle.std.specs.Ordering.{int_cmp}
use Rattle.std.proofs.lemmas.Int.{to_z-of_z}
use Rattle.std.specs.Int.RustNames.{FitsSigned}
use Rattle.cga_fraction.proofs.Order.{compared_same, compared_cross}
use Rattle.cga_fraction.proofs.fraction.Fraction.compare.Goals as goal

pub returns-then-self-other : goal.returns-then-self-other
returns-then-self-other c =
    let e : c.self.inside.denominator ≡ c.other.inside.denominator = search rules in
    let h : c.cmp.result ≡ int_cmp c.self.inside.numerator c.other.inside.numerator = search (rules, to_z-of_z) in
    compared_same c.args.self c.args.other _ _ c.other.inside.denominator _ (rw e at c.self.view_is) c.other.view_is h

pub returns : goal.returns
returns c =
    let m : FitsSigned w64 c.self.inside.numerator = search rules in
    let n : FitsSigned w64 c.other.inside.numerator = search rules in
    let p : c.product-left.result ≡ c.self.inside.numerator *ℤ pos c.other.inside.denominator = c.product-left.ensures.value ∙ ap (λ (z : ℤ). z *ℤ pos c.other.inside.denominator) (to_z-of_z w64 _ m) in
    let q : c.product-right.result ≡ c.other.inside.numerator *ℤ pos c.self.inside.denominator = c.product-right.ensures.value ∙ ap (λ (z : ℤ). z *ℤ pos c.self.inside.denominator) (to_z-of_z w64 _ n) in
    let h : c.cmp-2.result ≡ int_cmp c.product-left.result c.product-right.result = search (rules, to_z-of_z) in
    compared_cross _ _ _ _ _ _ _ c.self.view_is c.other.view_is c.self.invariant.positive c.other.invariant.positive (rw (p, q) at h)
