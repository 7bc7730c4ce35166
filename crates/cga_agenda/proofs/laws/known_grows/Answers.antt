use Rattle.cga_agenda.specs.Edit.{new_world}
use Rattle.cga_agenda.proofs.Lists.{roots_once}
use Rattle.cga_agenda.proofs.Budget.{known_begins, known_grows}
use Rattle.cga_agenda.proofs.laws.known_grows.Goals as goal

pub returns : goal.returns
returns g c = record {
  begins = λ edit laws start nodes queued started begun. known_begins edit laws start started nodes queued begun (roots_once (new_world edit) laws.new);
  turns = λ edit laws start before after s queued requeued turned worked known expanded started good turn knows. known_grows edit laws start started before after s queued requeued turned worked expanded known good turn knows;
}
