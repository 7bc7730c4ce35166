use Rattle.cga_rework.proofs.Whole as proof
use Rattle.cga_rework.proofs.laws.agenda_is_queued.Goals as goal

pub returns : goal.returns
returns g c = proof.agenda_is_queued
