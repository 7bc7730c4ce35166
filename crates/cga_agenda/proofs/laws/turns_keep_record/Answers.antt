use Rattle.cga_agenda.proofs.Record.{record_next}
use Rattle.cga_agenda.proofs.laws.turns_keep_record.Goals as goal

pub returns : goal.returns
returns g c = λ edit laws start before after s queued requeued turned worked expanded gone come removed created started good turn kept change. record_next edit laws start started before after s queued requeued turned worked expanded good turn gone come removed created kept change
