use Rattle.std.proofs.Common.{◌≡◌, ◌++◌, drop}
use Rattle.cga_city.specs.Reports.{drawn_in}
use Rattle.cga_city.specs.Lots.{names_of}
use Rattle.cga_city.specs.Nodes.{ForItsMembers}
use Rattle.cga_city.proofs.reports.push_drawn_by.Given as goal

abbrev pub invariant-loop-lot : goal.invariant-loop-lot
invariant-loop-lot l = ForItsMembers l.forest (λ list. l.drawn ++ drawn_in (names_of (drop l.lot-index l.run)) list ≡ l.fn.drawn ++ drawn_in (names_of l.run) list)
