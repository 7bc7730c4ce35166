use Rattle.cga_rework.proofs.More.{from_nothing}
use Rattle.cga_rework.proofs.laws.from_nothing.Goals as goal

pub returns : goal.returns
returns g c = λ shapes new are. from_nothing shapes new are
