use Rattle.cga_rework.proofs.End.{early}
use Rattle.cga_rework.proofs.laws.known_is_over.Goals as goal

pub returns : goal.returns
returns g c = λ shapes old new laws start now queued turned worked known started good knows. early shapes old new laws start started now queued turned worked good known knows
