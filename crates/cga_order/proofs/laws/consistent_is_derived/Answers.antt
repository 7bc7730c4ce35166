use Rattle.cga_order.proofs.Unique.{same_members}
use Rattle.cga_order.proofs.laws.consistent_is_derived.Goals as goal

pub returns : goal.returns
returns g c = same_members
