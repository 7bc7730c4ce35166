use Rattle.std.proofs.Common.{◌≡◌, take}
use Rattle.cga_shape.specs.Runs.{joined}
use Rattle.cga_shape.proofs.lots.Lots.to_vec.Given as goal

abbrev pub invariant-loop-run : goal.invariant-loop-run
invariant-loop-run l = l.lots.items ≡ joined (take l.run-index l.run-items)
