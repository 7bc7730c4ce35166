use Rattle.cga_rework.proofs.Whole as proof
use Rattle.cga_rework.proofs.laws.node_turns.Goals as goal

pub returns : goal.returns
returns g c = proof.node_turns
