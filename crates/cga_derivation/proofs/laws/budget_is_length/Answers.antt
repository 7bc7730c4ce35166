use Rattle.cga_derivation.proofs.Within.{budget_is}
use Rattle.cga_derivation.proofs.laws.budget_is_length.Goals as goal

pub returns : goal.returns
returns g c = budget_is
