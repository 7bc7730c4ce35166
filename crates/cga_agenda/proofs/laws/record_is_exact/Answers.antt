use Rattle.cga_agenda.proofs.Record.{record_exact}
use Rattle.cga_agenda.proofs.laws.record_is_exact.Goals as goal

pub returns : goal.returns
returns g c = λ edit laws start now queued turned worked gone come started good kept empty. record_exact edit laws start started now queued turned worked good gone come kept empty
