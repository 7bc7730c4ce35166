use Rattle.cga_laws.proofs.Undoing.{undos_go_through, redos_go_through}
use Rattle.cga_laws.proofs.laws.undo_is_never_refused.Goals as goal

pub returns-clause-undo : goal.returns-clause-undo
returns-clause-undo c = undos_go_through

pub returns-clause-redo : goal.returns-clause-redo
returns-clause-redo c = redos_go_through
