use Rattle.cga_rework.proofs.More.{over_none, none_over}
use Rattle.cga_rework.proofs.laws.over_is_none.Goals as goal

pub returns : goal.returns
returns g c = λ shapes rules are budget. (over_none shapes rules are budget, none_over shapes rules are budget)
