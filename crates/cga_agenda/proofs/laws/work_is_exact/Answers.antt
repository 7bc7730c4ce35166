use Rattle.cga_agenda.proofs.Exact.{exact}
use Rattle.cga_agenda.proofs.laws.work_is_exact.Goals as goal

pub returns : goal.returns
returns g c = λ edit laws start now queued turned worked started good empty. exact edit laws start started now queued turned worked good empty
