use Rattle.std.proofs.Common.{◌≡◌, take}
use Rattle.cga_city.specs.Lots.{names_of}
use Rattle.cga_shape.specs.Runs.{joined}
use Rattle.cga_top.proofs.reports.names.Given as goal

abbrev pub invariant-loop-run : goal.invariant-loop-run
invariant-loop-run l = l.names ≡ names_of (joined (take l.run-index l.run-items))
