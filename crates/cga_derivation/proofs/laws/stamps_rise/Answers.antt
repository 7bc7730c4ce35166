use Rattle.cga_derivation.proofs.Stamps.{rises}
use Rattle.cga_derivation.proofs.laws.stamps_rise.Goals as goal

pub returns : goal.returns
returns g c = rises
