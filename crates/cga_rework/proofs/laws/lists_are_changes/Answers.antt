use Rattle.cga_rework.proofs.Changes as proof
use Rattle.cga_rework.proofs.laws.lists_are_changes.Goals as goal

pub returns : goal.returns
returns g c = proof.lists_are_changes
