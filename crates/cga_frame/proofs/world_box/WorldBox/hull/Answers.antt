use Rattle.cga_frame.proofs.Boxes.{hull_is_box, hull_is}
use Rattle.cga_frame.proofs.world_box.WorldBox.hull.Goals as goal

pub invariant_of-result : goal.invariant_of-result
invariant_of-result c = rw (c.min.ensures, c.max.ensures) (hull_is_box (record { low = c.self.inside.low; high = c.self.inside.high }) (record { low = c.other.inside.low; high = c.other.inside.high }) c.self.invariant)

pub returns-clause-least : goal.returns-clause-least
returns-clause-least c = rw (c.min.ensures, c.max.ensures, ← c.self.view_is, ← c.other.view_is) (hull_is (record { low = c.self.inside.low; high = c.self.inside.high }) (record { low = c.other.inside.low; high = c.other.inside.high }))
