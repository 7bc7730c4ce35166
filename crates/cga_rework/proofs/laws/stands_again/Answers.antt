use Rattle.cga_rework.proofs.StandsAgain as proof
use Rattle.cga_rework.proofs.laws.stands_again.Goals as goal

pub returns : goal.returns
returns g c = proof.stands_again
