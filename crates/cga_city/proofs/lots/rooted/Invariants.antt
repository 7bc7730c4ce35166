use Rattle.std.proofs.Common.{◌≡◌, drop}
use Rattle.cga_shape.specs.Runs.{joined}
use Rattle.cga_city.specs.Lots.{rooted}
use Rattle.cga_city.proofs.lots.rooted.Given as goal

abbrev pub invariant-loop-run : goal.invariant-loop-run
invariant-loop-run l = rooted l.grammar (joined (drop l.run-index l.run-items)) ≡ rooted l.grammar l.lots
