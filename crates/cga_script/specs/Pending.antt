-- What is kept of the line that is being read.
use Rattle.std.specs.Prelude.{◌≡◌, ℕ, true, List, [], ◌∷◌, ◌++◌, take, drop}
use Rattle.std.specs.Bool.{MatchBool}
use Rattle.cga_script.specs.Ends.{is_blank_line}
use Rattle.cga_script.specs.Lines.{Line, IsOneLine, clipped, cut, without_cr, lines_of}
use Rattle.cga_script.specs.declared.fed.Fed.{Fed}
use Rattle.cga_script.specs.declared.ending.Ending.{Ending}
use Rattle.cga_script.specs.declared.ending.Ending.TheVariants.{Open, Lf, End}

-- the first bytes of the line, enough to tell all that is asked of it, and what ended it
pub record Pending : Type 0 where
  pub kept : List ℕ
  pub ending : Ending

-- the most bytes of a line that are kept: one more than the longest line with its CR has
abbrev pub kept_limit : ℕ
kept_limit = 4098

-- what is kept of these bytes of a line
abbrev pub kept_of : List ℕ → List ℕ
kept_of bytes = take kept_limit bytes

-- what is kept, without what its ending takes away: an LF takes one CR before it
abbrev pub ended_by : Ending → List ℕ → List ℕ
ended_by Lf kept = without_cr kept
ended_by Open kept = kept
ended_by End kept = kept

-- the line that is ready, as it is read
abbrev pub ready_line : Pending → Line
ready_line p = clipped (ended_by p.ending p.kept)

-- so much is kept of a line that goes on, of which these bytes have come
pub record IsPart (rest : List ℕ) (p : Pending) : Type 0 where
  pub one : IsOneLine rest
  pub kept : p ≡ record { kept = kept_of rest; ending = Open }

-- what a piece does after these bytes of a line: it completes the line, which is ready then and comes first, or
-- the line goes on
abbrev pub CutsLine : List ℕ → List ℕ → Fed → Pending → Type 0
CutsLine rest piece fed new = MatchBool fed.ready
    (lines_of (rest ++ piece) ≡ ready_line new ∷ lines_of (drop fed.taken piece))
    ((lines_of (rest ++ piece) ≡ []) × IsPart (rest ++ piece) new)

-- the first so many bytes of a piece are a blank line with its LF
pub record IsBlankFront (piece : List ℕ) (taken : ℕ) : Type 0 where
  pub line : Line
  pub blank : is_blank_line line ≡ true
  pub lines : lines_of piece ≡ line ∷ lines_of (drop taken piece)
  pub rest : (cut piece).rest ≡ (cut (drop taken piece)).rest
