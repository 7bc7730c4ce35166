use Rattle.cga_rework.proofs.Stands.{start_stands}
use Rattle.cga_rework.proofs.laws.start_stands.Goals as goal

pub returns : goal.returns
returns g c = λ shapes old new are. start_stands shapes old are new
