use Rattle.cga_agenda.proofs.Late.{child, further}
use Rattle.cga_agenda.proofs.laws.below_is_late.Goals as goal

pub returns : goal.returns
returns g c = record { child = child; further = further }
