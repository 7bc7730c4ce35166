use Rattle.std.proofs.Common.{◌≡◌, drop}
use Rattle.cga_fraction.specs.Rat.{zero_rat}
use Rattle.cga_split.specs.Subdiv.{relative_total}
use Rattle.cga_split.proofs.subdivide.relative_total.Given as goal

abbrev pub invariant-loop-size : goal.invariant-loop-size
invariant-loop-size l = relative_total l.total (drop l.size-index l.sizes) ≡ relative_total zero_rat l.fn.sizes
