use Rattle.cga_rework.proofs.Again.{again, first}
use Rattle.cga_rework.proofs.laws.work_starts_again.Goals as goal

pub returns : goal.returns
returns g c = record { again = λ shapes. again shapes; first = λ shapes. first shapes }
