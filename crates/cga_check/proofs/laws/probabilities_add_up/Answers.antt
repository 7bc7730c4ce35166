use Rattle.cga_check.proofs.Valid.{probabilities_add_up}
use Rattle.cga_check.proofs.laws.probabilities_add_up.Goals as goal

pub returns : goal.returns
returns c = probabilities_add_up
