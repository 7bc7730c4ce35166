use Rattle.std.proofs.Common.{◌∙◌, ap, refl, rules, w64, unsigned_abs}
use Rattle.std.proofs.lemmas.Int.{to_z-of_z}
use Rattle.std.specs.Int.RustNames.{FitsSigned}
use Rattle.cga_fraction.proofs.Texts.{rounded}
use Rattle.cga_fraction.proofs.fraction.Fraction.rounded_magnitude.Goals as goal

pub returns-then-self-lt-SMALL : goal.returns-then-self-lt-SMALL
returns-then-self-lt-SMALL c =
    let f : FitsSigned w64 c.self.inside.numerator = search rules in
    rw c.narrow_nearest.ensures (rounded c.args.self c.self.inside.numerator c.self.inside.denominator c.args.places _ _ c.self.view_is c.self.invariant.positive (c.unsigned_abs-numerator.ensures.value ∙ ap unsigned_abs (to_z-of_z w64 _ f)) refl)

pub returns : goal.returns
returns c =
    let f : FitsSigned w64 c.self.inside.numerator = search rules in
    rw c.nearest.ensures (rounded c.args.self c.self.inside.numerator c.self.inside.denominator c.args.places _ _ c.self.view_is c.self.invariant.positive (c.unsigned_abs-numerator.ensures.value ∙ ap unsigned_abs (to_z-of_z w64 _ f)) refl)
