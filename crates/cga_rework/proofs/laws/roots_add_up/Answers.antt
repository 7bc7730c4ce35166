use Rattle.cga_rework.proofs.Roots as proof
use Rattle.cga_rework.proofs.laws.roots_add_up.Goals as goal

pub returns : goal.returns
returns g c = proof.roots_add_up
