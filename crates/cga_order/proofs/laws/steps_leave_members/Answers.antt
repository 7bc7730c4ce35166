use Rattle.cga_order.proofs.Counts.{length-taken}
use Rattle.cga_order.proofs.laws.steps_leave_members.Goals as goal

pub returns : goal.returns
returns g c = length-taken
