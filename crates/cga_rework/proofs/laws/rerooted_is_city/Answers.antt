use Rattle.cga_rework.proofs.Begun as proof
use Rattle.cga_rework.proofs.laws.rerooted_is_city.Goals as goal

pub returns : goal.returns
returns g c = proof.rerooted_is_city
