use Rattle.std.proofs.Common.{rules}
use Rattle.std.proofs.lemmas.Int.{to_z-of_z}
use Rattle.cga_fraction.proofs.Order.{positive_is}
use Rattle.cga_fraction.proofs.fraction.Fraction.is_positive.Goals as goal

pub returns : goal.returns
returns c = search (rules, to_z-of_z, positive_is)
