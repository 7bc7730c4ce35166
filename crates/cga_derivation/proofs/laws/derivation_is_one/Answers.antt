use Rattle.cga_derivation.proofs.One.{one, within}
use Rattle.cga_derivation.proofs.laws.derivation_is_one.Goals as goal

pub returns : goal.returns
returns g c = record { one = one; within = within }
