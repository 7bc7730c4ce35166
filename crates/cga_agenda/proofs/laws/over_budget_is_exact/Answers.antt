use Rattle.cga_agenda.specs.Edit.{new_world}
use Rattle.cga_agenda.proofs.Lists.{roots_once}
use Rattle.cga_agenda.proofs.OverBudget as over
use Rattle.cga_agenda.proofs.laws.over_budget_is_exact.Goals as goal

pub returns : goal.returns
returns g c = record {
  early = λ edit laws start now queued turned worked known started good knows. over.early edit laws start started now queued turned worked good known knows;
  late = λ edit laws start now queued turned worked started good empty once. over.late edit laws start started now queued turned worked good empty (roots_once (new_world edit) laws.new) once;
}
