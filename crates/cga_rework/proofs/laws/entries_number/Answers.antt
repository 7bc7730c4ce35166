use Rattle.cga_rework.proofs.Queue as proof
use Rattle.cga_rework.proofs.laws.entries_number.Goals as goal

pub returns : goal.returns
returns g c = proof.entries_number
