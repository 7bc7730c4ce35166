use Rattle.cga_rework.proofs.Whole as proof
use Rattle.cga_rework.proofs.laws.taken_is_priced.Goals as goal

pub returns : goal.returns
returns g c = proof.taken_is_priced
