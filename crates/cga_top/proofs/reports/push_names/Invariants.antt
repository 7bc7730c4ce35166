use Rattle.std.proofs.Common.{◌≡◌, ◌++◌, take}
use Rattle.cga_city.specs.Lots.{names_of}
use Rattle.cga_top.proofs.reports.push_names.Given as goal

abbrev pub invariant-loop-lot : goal.invariant-loop-lot
invariant-loop-lot l = l.names ≡ l.fn.names ++ names_of (take l.lot-index l.run)
