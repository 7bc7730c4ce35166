use Rattle.std.proofs.Common.{◌≡◌, drop}
use Rattle.cga_shape.specs.Runs.{joined}
use Rattle.cga_city.specs.Lots.{accepted}
use Rattle.cga_city.proofs.lots.accepted.Given as goal

abbrev pub invariant-loop-run : goal.invariant-loop-run
invariant-loop-run l = accepted l.grammar (joined (drop l.run-index l.run-items)) ≡ accepted l.grammar l.lots
