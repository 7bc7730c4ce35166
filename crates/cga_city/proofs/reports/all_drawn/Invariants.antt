use Rattle.std.proofs.Common.{◌≡◌, ◌++◌, drop}
use Rattle.cga_shape.specs.Runs.{joined}
use Rattle.cga_city.specs.Reports.{drawn_in}
use Rattle.cga_city.specs.Lots.{names_of}
use Rattle.cga_city.specs.Nodes.{ForItsMembers}
use Rattle.cga_city.proofs.reports.all_drawn.Given as goal

abbrev pub invariant-loop-run : goal.invariant-loop-run
invariant-loop-run l = ForItsMembers l.forest (λ list. l.drawn ++ drawn_in (names_of (joined (drop l.run-index l.run-items))) list ≡ drawn_in (names_of l.lots) list)
