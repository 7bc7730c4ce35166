use Rattle.cga_rework.proofs.Begun as proof
use Rattle.cga_rework.proofs.laws.roots_begin.Goals as goal

pub returns : goal.returns
returns g c = proof.roots_begin
