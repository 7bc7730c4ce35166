use Rattle.std.proofs.Common.{rules}
use Rattle.std.proofs.lemmas.Int.{to_z-of_z}
use Rattle.cga_fraction.proofs.Order.{negative_is}
use Rattle.cga_fraction.proofs.fraction.Fraction.is_negative.Goals as goal

pub returns : goal.returns
returns c = search (rules, to_z-of_z, negative_is)
