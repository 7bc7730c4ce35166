use Rattle.cga_rework.proofs.More.{unchanged}
use Rattle.cga_rework.proofs.laws.unchanged_children.Goals as goal

pub returns : goal.returns
returns g c = λ shapes old new. unchanged shapes old new
