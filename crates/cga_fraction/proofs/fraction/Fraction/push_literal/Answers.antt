use Rattle.std.proofs.Common.{◌∙◌, ap, rules, w64, unsigned_abs}
use Rattle.std.proofs.lemmas.Int.{to_z-of_z}
use Rattle.std.specs.Int.RustNames.{FitsSigned}
use Rattle.cga_fraction.proofs.Literals.{written}
use Rattle.cga_fraction.proofs.fraction.Fraction.push_literal.Goals as goal

pub returns : goal.returns
returns c =
    let f : FitsSigned w64 c.self.inside.numerator = search rules in
    rw (← written c.args.self c.self.inside.numerator c.self.inside.denominator _ _ _ c.self.view_is c.self.invariant.positive c.least_places_of-places.ensures.value (c.unsigned_abs-numerator.ensures.value ∙ ap unsigned_abs (to_z-of_z w64 _ f)) c.power_of_ten.ensures.value) c.push_pointed.ensures
