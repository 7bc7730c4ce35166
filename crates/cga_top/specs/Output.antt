-- What a script is replied to: the replies to its lines, one after the other.
use Rattle.std.specs.Prelude.{ℕ, List, [], ◌∷◌}
use Rattle.cga_script.specs.Lines.{Line, cut, clipped, lines_of}
use Rattle.cga_top.specs.State.{State, start}
use Rattle.cga_top.specs.Effect.{Effect, silent, followed_by}
use Rattle.cga_top.specs.Replies.{effect, at_end}

-- what lines do, one after the other
unfoldable pub effect_of_all : State → List Line → Effect
effect_of_all s [] = silent s
effect_of_all s (line ∷ lines) = followed_by (effect s line) (effect_of_all (effect s line).state lines)

-- what stands after the last LF is a line where it isn't empty, and keeps its CR
abbrev pub last_line : State → List ℕ → Effect
last_line s [] = silent s
last_line s (byte ∷ bytes) = effect s (clipped (byte ∷ bytes))

-- the last line, and then the end
abbrev pub last_effect : State → List ℕ → Effect
last_effect s rest = followed_by (last_line s rest) (at_end (last_line s rest).state)

-- the lines that an LF ends, where coordinates are printed with so many decimals
abbrev pub effect_of_lines : ℕ → List ℕ → Effect
effect_of_lines decimals bytes = effect_of_all (start decimals) (lines_of bytes)

-- all lines, and the end
abbrev pub effect_of_script : ℕ → List ℕ → Effect
effect_of_script decimals bytes =
    followed_by (effect_of_lines decimals bytes) (last_effect (effect_of_lines decimals bytes).state (cut bytes).rest)

-- the replies to the lines that an LF ends
unfoldable pub replies_of : ℕ → List ℕ → List ℕ
replies_of decimals bytes = (effect_of_lines decimals bytes).reply

-- all that a script is replied to
unfoldable pub output_of : ℕ → List ℕ → List ℕ
output_of decimals bytes = (effect_of_script decimals bytes).reply
