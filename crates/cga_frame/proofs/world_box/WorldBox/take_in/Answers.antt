use Rattle.cga_frame.proofs.Boxes.{hull_is_box}
use Rattle.cga_frame.proofs.world_box.WorldBox.take_in.Goals as goal

pub invariant_of-self : goal.invariant_of-self
invariant_of-self c =
    rw (c.lower.ensures, c.lower-2.ensures, c.lower-3.ensures, c.raise.ensures, c.raise-2.ensures, c.raise-3.ensures)
    (hull_is_box (record { low = c.self.inside.low; high = c.self.inside.high }) (record { low = c.other.inside.low; high = c.other.inside.high }) c.self.invariant)
