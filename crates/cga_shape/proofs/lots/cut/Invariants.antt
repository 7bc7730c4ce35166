use Rattle.std.proofs.Common.{length, ◌-◌, ◌≡◌, ◌≤◌, take}
use Rattle.cga_shape.specs.Runs.{joined}
use Rattle.cga_shape.proofs.lots.cut.Given as goal

abbrev pub invariant-loop-done : goal.invariant-loop-done
invariant-loop-done l = (l.done ≤ length l.lots) × (joined l.runs.items ≡ take l.done l.lots)

abbrev pub decreases-loop-done : goal.decreases-loop-done
decreases-loop-done l = length l.lots - l.done
