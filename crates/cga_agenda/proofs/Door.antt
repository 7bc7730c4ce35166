-- What other crates may cite of cga_agenda. All other pages of its proofs are its own.

-- How the work of an edit begins
pub use Rattle.cga_agenda.proofs.Begin.{begins}
-- What is known of the new derivation before the work is done
pub use Rattle.cga_agenda.proofs.Budget.{all_derived, known_derived, turned_derived}
-- What stands below a shape was made at its stamp or later
pub use Rattle.cga_agenda.proofs.Late.{child, further}
-- Shapes and members of lists, and roots
pub use Rattle.cga_agenda.proofs.Lists.{Among-Has, Has-Among, roots_once}
-- The members of a run, each once, and those that it has made before a limit
pub use Rattle.cga_agenda.proofs.Made.{once-reached}
-- Where an edit is refused for the budget
pub use Rattle.cga_agenda.proofs.OverBudget.{late}
-- The answers that a shape got at its own step are those at its stamp
pub use Rattle.cga_agenda.proofs.Own.{AnsweredIn, own, taken-in}
-- A shape is kept where each prefix of its path is
pub use Rattle.cga_agenda.proofs.Prefixes.{to_prefixes}
-- The record of change
pub use Rattle.cga_agenda.proofs.Record.{count_append}
-- The end of an update, over the two derivations
pub use Rattle.cga_agenda.proofs.Update.{Has-drawn, IsUpdate, answers_same, drawn-Has, once-drawn, update}
-- What holds between turns, of nodes and their children
pub use Rattle.cga_agenda.proofs.Working.{path_not_empty}
-- A town of one lot
pub use Rattle.cga_agenda.proofs.OneLot.{turn_from}
