use Rattle.cga_derivation.proofs.Derive.{says}
use Rattle.cga_derivation.proofs.laws.derive_says.Goals as goal

pub returns : goal.returns
returns g c = says
