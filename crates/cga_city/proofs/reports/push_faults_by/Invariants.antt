use Rattle.std.proofs.Common.{◌≡◌, ◌++◌, drop}
use Rattle.cga_city.specs.Reports.{faults_in}
use Rattle.cga_city.specs.Lots.{names_of}
use Rattle.cga_city.specs.Nodes.{ForItsMembers}
use Rattle.cga_city.proofs.reports.push_faults_by.Given as goal

abbrev pub invariant-loop-lot : goal.invariant-loop-lot
invariant-loop-lot l = ForItsMembers l.forest (λ list. l.faults ++ faults_in (names_of (drop l.lot-index l.run)) list ≡ l.fn.faults ++ faults_in (names_of l.run) list)
