use Rattle.cga_order.proofs.Derived.{consistent-reached}
use Rattle.cga_order.proofs.laws.derived_is_consistent.Goals as goal

pub returns : goal.returns
returns g c = consistent-reached
