-- What an undo restores.
use Rattle.std.specs.Prelude.{◌≡◌, ◌++◌, ℕ, List, [], ◌∷◌, Ok, IsTrue, is_ok}
use Rattle.cga_script.specs.Lines.{Line}
use Rattle.cga_script.specs.declared.script_command.ScriptCommand.{ScriptCommand}
use Rattle.cga_script.specs.declared.script_command.ScriptCommand.TheVariants.{Print, Faults, Grammar, Dump, Model, Bill, Undo, Redo, Stats, Trace}
use Rattle.cga_script.specs.declared.version.Version.TheVariants.{Two}
use Rattle.cga_top.specs.Effect.{Work, editing}
use Rattle.cga_top.specs.Output.{effect_of_all}
use Rattle.cga_top.specs.Replies.{effect}
use Rattle.cga_top.specs.State.{State}
use Rattle.cga_top.specs.Told.{command_of}
use Rattle.cga_laws.specs.Scripts.{IsCommand}
use Rattle.cga_laws.specs.Undos.{state_after}

-- a report, but for `stats`, whose last number is that of the last edit
abbrev pub IsReport : ScriptCommand → Type 0
IsReport (Print name) = Unit {0}
IsReport Faults = Unit {0}
IsReport Grammar = Unit {0}
IsReport Dump = Unit {0}
IsReport (Model name) = Unit {0}
IsReport Bill = Unit {0}
IsReport Trace = Unit {0}
IsReport Stats = ⊥
IsReport _ = ⊥

-- the sources are as before, and so is the reply to each line that asks for a report; and all else, but the number of
-- `stats` and what can be undone and redone
pub record IsRestored (before after : State) : Type 0 where
  pub sources : after.sources ≡ before.sources
  pub reports : (line : Line) (report : ScriptCommand) → command_of Two line ≡ Ok report → IsReport report
      → (effect after line).reply ≡ (effect before line).reply
  pub others : after ≡ record before { number = after.number; kept = after.kept }

-- an edit was done
abbrev pub IsDone : List Work → Type 0
IsDone (editing tried ∷ []) = IsTrue (is_ok tried.gave)
IsDone _ = ⊥

-- in version 2 a command asks for an edit, which is done
pub record IsAccepted (s : State) (command : List Line) : Type 0 where
  pub second : s.version ≡ Two
  pub one : IsCommand s command
  pub done : IsDone (effect_of_all s command).works

abbrev pub Asks : ScriptCommand → Line → Type 0
Asks command line = command_of Two line ≡ Ok command

-- it is one line, an `undo`
abbrev pub IsUndo : List Line → Type 0
IsUndo command = (line : Line) × (command ≡ line ∷ []) × Asks Undo line

-- behind an accepted edit or `redo`, an `undo` restores what was before it
abbrev pub UndosRestore : Type 0
UndosRestore =
    (decimals : ℕ) (before command : List Line) (undo : Line)
    → let s = state_after decimals before in
    IsAccepted s command → (IsUndo command → ⊥) → Asks Undo undo
    → IsRestored s (state_after decimals (before ++ (command ++ undo ∷ [])))

-- behind an accepted `undo`, a `redo` restores what was before it
abbrev pub RedosRestore : Type 0
RedosRestore =
    (decimals : ℕ) (before : List Line) (undo redo : Line)
    → let s = state_after decimals before in
    IsAccepted s (undo ∷ []) → Asks Undo undo → Asks Redo redo
    → IsRestored s (state_after decimals (before ++ (undo ∷ redo ∷ [])))
