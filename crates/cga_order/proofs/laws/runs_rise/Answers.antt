use Rattle.cga_order.proofs.Steps.{rises}
use Rattle.cga_order.proofs.laws.runs_rise.Goals as goal

pub returns : goal.returns
returns g c = rises
