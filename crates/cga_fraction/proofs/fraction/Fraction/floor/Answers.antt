use Rattle.std.proofs.Common.{◌≡◌, rules, w64, to_z, of_z}
use Rattle.cga_fraction.specs.Rounding.{floor_of}
use Rattle.cga_fraction.proofs.Rounding.{floor_is}
use Rattle.cga_fraction.proofs.fraction.Fraction.floor.Goals as goal

pub returns-clause-floor : goal.returns-clause-floor
unfolding floor_of
returns-clause-floor c =
    let e : to_z w64 (of_z w64 c.floor_quotient.result) ≡ floor_of c.args.self = search rules in floor_is _ _ e
