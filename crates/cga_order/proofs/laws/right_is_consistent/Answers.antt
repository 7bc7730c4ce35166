use Rattle.cga_order.proofs.Turns.{right_consistent}
use Rattle.cga_order.proofs.laws.right_is_consistent.Goals as goal

pub returns : goal.returns
returns g c = right_consistent
