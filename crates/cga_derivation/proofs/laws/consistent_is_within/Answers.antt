use Rattle.cga_derivation.proofs.Within.{consistent_within}
use Rattle.cga_derivation.proofs.laws.consistent_is_within.Goals as goal

pub returns : goal.returns
returns g c = consistent_within
