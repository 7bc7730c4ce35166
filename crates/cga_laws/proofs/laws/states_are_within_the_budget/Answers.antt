use Rattle.cga_laws.proofs.Undoing.{states_are_within}
use Rattle.cga_laws.proofs.laws.states_are_within_the_budget.Goals as goal

pub returns : goal.returns
returns c = states_are_within
