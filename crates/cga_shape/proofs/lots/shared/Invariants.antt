use Rattle.std.proofs.Common.{◌≡◌, take}
use Rattle.cga_shape.proofs.lots.shared.Given as goal

abbrev pub invariant-loop-run : goal.invariant-loop-run
invariant-loop-run l = l.same.items ≡ take l.run-index l.runs
