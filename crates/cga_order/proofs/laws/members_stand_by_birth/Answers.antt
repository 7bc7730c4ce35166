use Rattle.cga_order.proofs.Places.{stands-reached}
use Rattle.cga_order.proofs.laws.members_stand_by_birth.Goals as goal

pub returns : goal.returns
returns g c = stands-reached
