-- What lines do behind others, and what one command of a script is.
use Rattle.std.specs.Prelude.{◌≡◌, ℕ, List, [], ◌∷◌, IsTrue, None, is_some}
use Rattle.cga_script.specs.Lines.{Line}
use Rattle.cga_top.specs.Effect.{Effect}
use Rattle.cga_top.specs.Output.{effect_of_all}
use Rattle.cga_top.specs.Replies.{effect}
use Rattle.cga_top.specs.State.{State, start}
use Rattle.cga_laws.specs.Undos.{state_after}

-- the replies to lines
abbrev pub replies_to : ℕ → List Line → List ℕ
replies_to decimals lines = (effect_of_all (start decimals) lines).reply

-- what lines do behind others
abbrev pub behind : ℕ → List Line → List Line → Effect
behind decimals before lines = effect_of_all (state_after decimals before) lines

-- behind each line but the last a block is open, and behind the last none is
abbrev pub EndsAtLast : State → List Line → Type 0
EndsAtLast s [] = ⊥
EndsAtLast s (line ∷ []) = (effect s line).state.block ≡ None
EndsAtLast s (line ∷ next ∷ lines) = IsTrue (is_some (effect s line).state.block) × EndsAtLast (effect s line).state (next ∷ lines)

-- one command, where no block is open: a line, or a block from its first line to its `end`
pub record IsCommand (s : State) (command : List Line) : Type 0 where
  pub outside : s.block ≡ None
  pub ends : EndsAtLast s command
