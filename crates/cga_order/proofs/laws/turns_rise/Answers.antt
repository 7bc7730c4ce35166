use Rattle.cga_order.proofs.Turns.{worked_rises}
use Rattle.cga_order.proofs.laws.turns_rise.Goals as goal

pub returns : goal.returns
returns g c = worked_rises
