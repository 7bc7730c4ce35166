-- What a block of lines is judged to be, beside the lines of a run's text.
use Rattle.std.specs.Prelude.{ℕ, suc, List, [], ◌∷◌, ◌++◌, bytes_eq, codes, decimal, Bool, false, not, ◌&&◌, Option, Some, None, if◌then◌else◌}
use Rattle.cga_form.specs.Lines.{Line, is_long}
use Rattle.cga_shape.specs.declared.trace_step.TraceStep.{TraceStep}
use Rattle.cga_trace.specs.Text.{header, trace_lines}

-- the line is this one; a long line is none
abbrev pub is_line : List ℕ → Line → Bool
is_line text line = not (is_long line) && bytes_eq text line.bytes

-- the number of the first line that isn't that of the text, is missing or is one too many, where they
-- are numbered from n on
abbrev pub differs_at : ℕ → List (List ℕ) → List Line → Option ℕ
differs_at n [] [] = None
differs_at n [] (line ∷ lines) = Some n
differs_at n (text ∷ texts) [] = Some n
differs_at n (text ∷ texts) (line ∷ lines) = if is_line text line then differs_at (suc n) texts lines else Some n

-- where a block of these lines differs from the text of a run
abbrev pub judged : List TraceStep → List Line → Option ℕ
judged run lines = differs_at 1 (trace_lines run) lines

-- and what it is replied to
unfoldable pub judged_text : Option ℕ → List ℕ
judged_text None = codes "# accepted\n"
judged_text (Some line) = codes "# rejected at " ++ (decimal line ++ codes "\n")

-- the first line is that of a trace of so many steps
abbrev pub is_headed : ℕ → List Line → Bool
is_headed n [] = false
is_headed n (line ∷ lines) = is_line (header n) line
