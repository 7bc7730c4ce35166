use Rattle.std.proofs.Common.{◌≡◌, drop}
use Rattle.cga_fraction.specs.Rat.{zero_rat}
use Rattle.cga_split.specs.Subdiv.{absolute_total}
use Rattle.cga_split.proofs.subdivide.absolute_total.Given as goal

abbrev pub invariant-loop-size : goal.invariant-loop-size
invariant-loop-size l = absolute_total l.total (drop l.size-index l.sizes) ≡ absolute_total zero_rat l.fn.sizes
