use Rattle.std.proofs.Common.{◌∙◌, ap, rules, w64, unsigned_abs, ◌≢◌, pos}
use Rattle.std.proofs.lemmas.Int.{to_z-of_z}
use Rattle.std.specs.Int.RustNames.{FitsSigned}
use Rattle.cga_fraction.proofs.Quotients.{swapped, abs-pos, abs-minus}
use Rattle.cga_fraction.proofs.fraction.Fraction.inverted.Goals as goal

pub invariant_of-result : goal.invariant_of-result
invariant_of-result c =
    let f : FitsSigned w64 c.self.inside.numerator = search rules in
    let some : c.self.inside.numerator ≢ pos 0 = search rules in
    swapped c.self.inside.numerator c.self.inside.denominator _ _ c.self.invariant some (abs-minus c.self.inside.denominator c.self.invariant.denominator) (c.unsigned_abs-denominator.ensures.value ∙ ap unsigned_abs (to_z-of_z w64 _ f))

pub invariant_of-result-2 : goal.invariant_of-result-2
invariant_of-result-2 c =
    let f : FitsSigned w64 c.self.inside.numerator = search rules in
    let some : c.self.inside.numerator ≢ pos 0 = search rules in
    swapped c.self.inside.numerator c.self.inside.denominator _ _ c.self.invariant some (abs-pos c.self.inside.denominator c.self.invariant.denominator) (c.unsigned_abs-denominator.ensures.value ∙ ap unsigned_abs (to_z-of_z w64 _ f))
