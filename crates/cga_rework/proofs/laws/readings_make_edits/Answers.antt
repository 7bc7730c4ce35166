use Rattle.cga_rework.proofs.Again.{readings_make}
use Rattle.cga_rework.proofs.laws.readings_make_edits.Goals as goal

pub returns : goal.returns
returns g c = λ shapes. readings_make shapes
