-- What the lines of a block tell.
use Rattle.std.specs.Prelude.{◌≡◌, ℕ, suc, ◌+◌, Bool, true, false, min, List, [], ◌∷◌, ◌++◌, length, Option, Some, None, Result, Ok, Err}
use Rattle.cga_lexer.specs.Line.{tokens_of}
use Rattle.cga_lexer.specs.declared.token.Token.{Token}
use Rattle.cga_lexer.specs.declared.fault.LexFault.{LexFault}
use Rattle.cga_syntax.specs.Pieces.{Pieces}
use Rattle.cga_form.specs.declared.line_fault.LineFault.{LineFault}
use Rattle.cga_form.specs.declared.line_fault.LineFault.TheVariants.{LineTooLong}
use Rattle.cga_form.specs.declared.block_fault.BlockFault.{BlockFault}
use Rattle.cga_form.specs.declared.block_reader.BlockReader.{BlockReader}
use Rattle.cga_form.specs.Lines.{Line, is_long}
use Rattle.cga_form.specs.LineTells.{lexed, by_tokens}

-- ---- one line

-- what a line of a block tells: nothing where it is blank
abbrev pub Found : Type 0 → Type 0
Found A = Result (Option A) LineFault

-- a member that a line tells, as a line of a block tells it
abbrev pub as_line : {A : Type 0} → Result A LineFault → Found A
as_line (Ok said) = Ok (Some said)
as_line (Err fault) = Err fault

-- a line without tokens is blank
abbrev pub unless_blank : {A : Type 0} → (A → Pieces) → ℕ → Result (List Token) LexFault → Found A → Type 0
unless_blank w end (Err f) told = told ≡ Err (lexed f)
unless_blank w end (Ok []) told = told ≡ Ok None
unless_blank {A} w end (Ok (t ∷ ts)) told = (found : Result A LineFault) × by_tokens w end (Ok (t ∷ ts)) found × (told ≡ as_line found)

-- that it is too long, where it is
abbrev pub unless_long : {A : Type 0} → (A → Pieces) → List ℕ → Bool → Found A → Type 0
unless_long w bytes true told = told ≡ Err LineTooLong
unless_long w bytes false told = unless_blank w (length bytes + 1) (tokens_of bytes) told

-- that the line is too long, or its first bad byte, or that it is blank, or what its tokens tell
abbrev pub BlockTells : {A : Type 0} → (A → Pieces) → Line → Found A → Type 0
BlockTells w l told = unless_long w l.bytes (is_long l) told

-- ---- all lines

-- each of the lines says what stands at its place: nothing where it is blank
unfoldable pub Say : {A : Type 0} → (A → Pieces) → List Line → List (Option A) → Type 0
Say w [] [] = Unit {0}
Say w (l ∷ ls) (said ∷ all) = BlockTells w l (Ok said) × Say w ls all
Say w [] (said ∷ all) = ⊥
Say w (l ∷ ls) [] = ⊥

-- the number of a line, which stays at the last one that there is
abbrev pub line_number : ℕ → ℕ
line_number n = min n 4294967295

-- one of the lines is the first faulty one
abbrev pub IsFaulty : {A : Type 0} → (A → Pieces) → List Line → BlockFault → Type 0
IsFaulty {A} w lines f =
    (before : List Line) × (l : Line) × (after : List Line) × (all : List (Option A))
    × (lines ≡ before ++ l ∷ after) × Say w before all × BlockTells w l (Err f.fault) × (f.line ≡ line_number (suc (length before)))

-- what the lines of a block say, or the first faulty line
abbrev pub AllTells : {A B : Type 0} → (A → Pieces) → (List (Option A) → B) → List Line → Result B BlockFault → Type 0
AllTells {A} w says lines (Ok b) = (all : List (Option A)) × Say w lines all × (b ≡ says all)
AllTells w says lines (Err f) = IsFaulty w lines f

-- ---- the reader

-- what is kept of the lines: what they say, or the first faulty one
abbrev pub Keeps : {A G : Type 0} → (A → Pieces) → (G → List (Option A) → Type 0) → G → List Line → Option BlockFault
    → Type 0
Keeps {A} w holds g lines None = (all : List (Option A)) × Say w lines all × holds g all
Keeps w holds g lines (Some f) = IsFaulty w lines f

-- the reader was given these lines
abbrev pub StandsFor : {A G : Type 0} → (A → Pieces) → (G → List (Option A) → Type 0) → BlockReader G → List Line
    → Type 0
StandsFor w holds reader lines = (reader.lines ≡ line_number (length lines)) × Keeps w holds reader.gathered lines reader.fault
