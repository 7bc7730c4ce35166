use Rattle.cga_order.proofs.FourShapesInOrder.{two_modes}
use Rattle.cga_order.proofs.laws.two_modes.Goals as goal

pub returns : goal.returns
returns c = two_modes
