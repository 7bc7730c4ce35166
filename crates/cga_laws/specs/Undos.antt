-- What holds of each state that lines come to: its sources are within the budget, and an undo and a redo go through.
use Rattle.std.specs.Prelude.{◌≡◌, ℕ, List, Option, Some, None, Ok, IsTrue}
use Rattle.cga_city.specs.Derived.{is_within}
use Rattle.cga_city.specs.Inside.{AreSound}
use Rattle.cga_script.specs.Lines.{Line}
use Rattle.cga_shape.specs.declared.edit.Edit.TheVariants.{Whole}
use Rattle.cga_undo.specs.History.{Step, undone, redone}
use Rattle.cga_top.specs.State.{State, start}
use Rattle.cga_top.specs.Replies.{applied, budget_of}
use Rattle.cga_top.specs.Output.{effect_of_all}

-- the state that lines come to
abbrev pub state_after : ℕ → List Line → State
state_after decimals lines = (effect_of_all (start decimals) lines).state

-- the sources are sound, and within the budget of the version
abbrev pub StatesAreWithin : Type 0
StatesAreWithin = (decimals : ℕ) (lines : List Line) → let s = state_after decimals lines in AreSound s.sources × IsTrue (is_within (budget_of s.version) s.sources)

-- where there is a step, the edit that sets what it takes is accepted, and leaves just that
abbrev pub GoesThrough : State → Option Step → Type 0
GoesThrough s None = Unit {0}
GoesThrough s (Some step) = applied s (Whole step.taken) ≡ Ok step.taken

abbrev pub UndosGoThrough : Type 0
UndosGoThrough = (decimals : ℕ) (lines : List Line) → let s = state_after decimals lines in GoesThrough s (undone s.kept s.sources)

abbrev pub RedosGoThrough : Type 0
RedosGoThrough = (decimals : ℕ) (lines : List Line) → let s = state_after decimals lines in GoesThrough s (redone s.kept s.sources)
