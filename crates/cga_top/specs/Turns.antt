-- Lines, each with what it changed, and what is written of them.
use Rattle.std.specs.Prelude.{ℕ, List, [], ◌∷◌, ◌++◌, map}
use Rattle.cga_script.specs.Lines.{Line, cut, clipped, lines_of}
use Rattle.cga_shape.specs.declared.changes.Changes.{Changes}
use Rattle.cga_top.specs.Changed.{HasChanged}
use Rattle.cga_top.specs.Output.{effect_of_all}
use Rattle.cga_top.specs.Replies.{at_end, effect}
use Rattle.cga_top.specs.State.{State, start}

-- a line, and what it changed
pub record LineChanges : Type 0 where
  pub line : Line
  pub changes : Changes

abbrev pub lines_in : List LineChanges → List Line
lines_in turns = map (λ turn. turn.line) turns

-- what the lines of turns come to
abbrev pub after : State → List LineChanges → State
after s turns = (effect_of_all s (lines_in turns)).state

-- of each turn the changes are those of its line
abbrev pub HaveChanged : State → List LineChanges → Type 0
HaveChanged s [] = Unit {0}
HaveChanged s (turn ∷ turns) =
    HasChanged (effect s turn.line).works turn.changes × HaveChanged (effect s turn.line).state turns

-- what is told of changes, behind the reply to their line
abbrev pub Talk : Type 0
Talk = Changes → List ℕ

-- of each turn the reply to its line, and then what is told of its changes
abbrev pub text_by : Talk → State → List LineChanges → List ℕ
text_by told s [] = []
text_by told s (turn ∷ turns) =
    ((effect s turn.line).reply ++ told turn.changes) ++ text_by told (effect s turn.line).state turns

-- ---- a whole script

-- what stands after the last LF is a line where it isn't empty, and keeps its CR
abbrev pub last_of : List ℕ → List Line
last_of [] = []
last_of (byte ∷ bytes) = clipped (byte ∷ bytes) ∷ []

-- the lines of a script
abbrev pub all_lines : List ℕ → List Line
all_lines bytes = lines_of bytes ++ last_of (cut bytes).rest

-- the reply to the end of a script
abbrev pub end_of : ℕ → List ℕ → List ℕ
end_of decimals bytes = (at_end (effect_of_all (start decimals) (all_lines bytes)).state).reply
