use Rattle.cga_frame.proofs.Boxes.{corners_box}
use Rattle.cga_frame.proofs.scope.Scope.world_box.Goals as goal

pub invariant_of-result : goal.invariant_of-result
invariant_of-result c = rw (c.in_order-x.ensures, c.in_order-y.ensures, c.in_order-z.ensures) (corners_box c.self.inside.at c.self.inside.far)

pub returns-clause-ordered : goal.returns-clause-ordered
returns-clause-ordered c = rw (c.in_order-x.ensures, c.in_order-y.ensures, c.in_order-z.ensures) (corners_box c.self.inside.at c.self.inside.far)
