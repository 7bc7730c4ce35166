use Rattle.std.proofs.Common.{refl}
use Rattle.cga_fraction.specs.Order.{rat_le}
use Rattle.cga_kept_hulls.proofs.spares.of_a_point.Goals as goal

pub invariant_of-bounds : goal.invariant_of-bounds
unfolding rat_le
invariant_of-bounds c = rw (c.whole.ensures, c.whole-2.ensures) refl
