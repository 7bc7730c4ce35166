use Rattle.cga_shape.proofs.Equal.{shape_equal}
use Rattle.cga_shape.proofs.laws.equal_exactly.Goals as goal

pub returns : goal.returns
returns c = shape_equal
