-- What was told stays told.
use Rattle.std.specs.Prelude.{◌≡◌, ◌++◌, ℕ, List, [], None}
use Rattle.cga_script.specs.Lines.{cut}
use Rattle.cga_top.specs.Output.{effect_of_lines, output_of, replies_of}

-- these bytes begin those
abbrev pub Begins : List ℕ → List ℕ → Type 0
Begins front bytes = (rest : List ℕ) × (bytes ≡ front ++ rest)

-- Wherever a script is cut, the replies to the lines that an LF ends before the cut begin the replies to all such lines
abbrev pub RepliesStay : Type 0
RepliesStay = (decimals : ℕ) (script more : List ℕ) → Begins (replies_of decimals script) (replies_of decimals (script ++ more))

-- and they begin its output
abbrev pub RepliesBeginOutput : Type 0
RepliesBeginOutput = (decimals : ℕ) (script more : List ℕ) → Begins (replies_of decimals script) (output_of decimals (script ++ more))

-- Where it is cut behind an LF and outside of a block, they are the output of what stands before the cut
abbrev pub OutputsStay : Type 0
OutputsStay =
    (decimals : ℕ) (script more : List ℕ) → (cut script).rest ≡ [] → (effect_of_lines decimals script).state.block ≡ None
    → Begins (output_of decimals script) (output_of decimals (script ++ more))
