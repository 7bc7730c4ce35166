use Rattle.cga_order.proofs.Derived.{sees-step}
use Rattle.cga_order.proofs.laws.each_sees_what_was_made.Goals as goal

pub returns : goal.returns
returns g c = sees-step
