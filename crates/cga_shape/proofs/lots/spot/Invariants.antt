use Rattle.std.proofs.Common.{length, ◌-◌, ◌≡◌, ◌≤◌, ◌+◌, take}
use Rattle.cga_shape.specs.Runs.{joined}
use Rattle.cga_shape.proofs.lots.spot.Given as goal

abbrev pub invariant-loop-index : goal.invariant-loop-index
invariant-loop-index l = (l.index ≤ length l.runs) × (length (joined (take l.index l.runs)) + l.rest ≡ l.place)

abbrev pub decreases-loop-index : goal.decreases-loop-index
decreases-loop-index l = length l.runs - l.index
