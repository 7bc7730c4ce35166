use Rattle.cga_rework.proofs.Worlds.{make}
use Rattle.cga_rework.proofs.laws.rules_make_edits.Goals as goal

pub returns : goal.returns
returns g c = λ shapes old new laws. make shapes old new laws
