use Rattle.std.proofs.Common.{◌≡◌, rules, w64, to_z, of_z, pos}
use Rattle.std.specs.Prelude.{◌-ℤ◌}
use Rattle.cga_fraction.specs.Rounding.{ceil_of, floor_of}
use Rattle.cga_fraction.proofs.Rounding.{ceil_is}
use Rattle.cga_fraction.proofs.fraction.Fraction.ceil.Goals as goal

pub returns-clause-ceil : goal.returns-clause-ceil
unfolding floor_of
returns-clause-ceil c =
    let e : to_z w64 (of_z w64 (pos 0 -ℤ to_z w64 (of_z w64 c.floor_quotient.result))) ≡ ceil_of c.args.self = search rules in ceil_is _ _ e
