use Rattle.cga_rework.proofs.Queue as proof
use Rattle.cga_rework.proofs.laws.empty_is_none.Goals as goal

pub returns : goal.returns
returns g c = proof.empty_is_none
