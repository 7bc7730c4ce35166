use Rattle.std.proofs.Common.{◌≡◌, drop}
use Rattle.cga_shape.specs.Runs.{joined}
use Rattle.cga_city.specs.Lots.{has_symbol}
use Rattle.cga_city.proofs.lots.has_symbol.Given as goal

abbrev pub invariant-loop-run : goal.invariant-loop-run
invariant-loop-run l = has_symbol l.symbol (joined (drop l.run-index l.run-items)) ≡ has_symbol l.symbol l.lots
