use Rattle.cga_agenda.proofs.Turning.{next}
use Rattle.cga_agenda.proofs.laws.turns_keep_working.Goals as goal

pub returns : goal.returns
returns g c = λ edit laws start before after s queued requeued turned worked expanded started good turn. next edit laws start started before after s queued requeued turned worked expanded good turn
