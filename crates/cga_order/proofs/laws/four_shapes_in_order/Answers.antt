use Rattle.cga_order.proofs.FourShapesInOrder.{four_shapes}
use Rattle.cga_order.proofs.laws.four_shapes_in_order.Goals as goal

pub returns : goal.returns
returns c = four_shapes
