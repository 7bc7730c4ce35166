use Rattle.cga_derivation.proofs.Stamps.{in_order}
use Rattle.cga_derivation.proofs.laws.members_stand_in_order.Goals as goal

pub returns : goal.returns
returns g c = in_order
