use Rattle.cga_laws.proofs.Restoring.{redos_restore, undos_restore}
use Rattle.cga_laws.proofs.laws.undo_restores.Goals as goal

pub returns-clause-undo : goal.returns-clause-undo
returns-clause-undo c = undos_restore

pub returns-clause-redo : goal.returns-clause-redo
returns-clause-redo c = redos_restore
