use Rattle.cga_rework.proofs.Views as proof
use Rattle.cga_rework.proofs.laws.walk_asks.Goals as goal

pub returns : goal.returns
returns g c = proof.walk_asks
