use Rattle.cga_agenda.proofs.Record.{record_begins}
use Rattle.cga_agenda.proofs.laws.record_begins.Goals as goal

pub returns : goal.returns
returns g c = λ edit laws start nodes queued gone started begun change. record_begins edit laws start started nodes queued begun gone change
