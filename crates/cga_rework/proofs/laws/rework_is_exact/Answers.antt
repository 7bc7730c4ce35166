use Rattle.cga_rework.proofs.End.{rework}
use Rattle.cga_rework.proofs.laws.rework_is_exact.Goals as goal

pub returns : goal.returns
returns g c = λ shapes old new laws. rework shapes old new laws
