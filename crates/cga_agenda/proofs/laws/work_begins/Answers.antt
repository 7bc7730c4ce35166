use Rattle.cga_agenda.proofs.Begin.{begins}
use Rattle.cga_agenda.proofs.laws.work_begins.Goals as goal

pub returns : goal.returns
returns g c = λ edit laws start nodes queued started begun. begins edit laws start started nodes queued begun
