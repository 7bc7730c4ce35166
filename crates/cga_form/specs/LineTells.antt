-- What a line tells.
use Rattle.std.specs.Prelude.{◌≡◌, ℕ, ◌+◌, ◌-◌, Bool, true, false, nat_lt, List, length, map, Option, Some, None, Result, Ok, Err, slice_get}
use Rattle.cga_lexer.specs.Line.{tokens_of}
use Rattle.cga_lexer.specs.declared.token.Token.{Token}
use Rattle.cga_lexer.specs.declared.fault.LexFault.{LexFault}
use Rattle.cga_lexer.specs.declared.fault.LexFault.TheVariants as lex
use Rattle.cga_syntax.specs.Pieces.{Pieces}
use Rattle.cga_form.specs.declared.fault.Fault.{Fault}
use Rattle.cga_form.specs.declared.fault.Fault.TheVariants.{Unexpected, TooNested}
use Rattle.cga_form.specs.declared.line_fault.LineFault.{LineFault}
use Rattle.cga_form.specs.declared.line_fault.LineFault.TheVariants as line
use Rattle.cga_form.specs.Limits.{line_limit, most_open}
use Rattle.cga_form.specs.Tells.{Tells}
use Rattle.cga_form.specs.Cursor.{seen}

-- the lexer's fault
abbrev pub lexed : LexFault → LineFault
lexed (lex.BadByte place) = line.BadByte place
lexed (lex.BadNumber place) = line.BadNumber place
lexed (lex.LongName place) = line.LongName place
lexed (lex.OpenText place) = line.OpenText place

-- where a token begins, or the end where there is none
abbrev pub from_or : ℕ → Option Token → ℕ
from_or end None = end
from_or end (Some t) = t.from

-- the place of the first of the last so many tokens, or the end of the line
abbrev pub token_place : ℕ → List Token → ℕ → ℕ
token_place end tokens left = from_or end (slice_get tokens (length tokens - left))

-- a fault at its place
abbrev pub placed : ℕ → List Token → Fault → LineFault
placed end tokens (Unexpected left) = line.Unexpected (token_place end tokens left)
placed end tokens (TooNested left) = line.TooNested (token_place end tokens left)

-- what is told with the place of its fault
abbrev pub with_place : {A : Type 0} → ℕ → List Token → Result A Fault → Result A LineFault
with_place end tokens (Ok a) = Ok a
with_place end tokens (Err f) = Err (placed end tokens f)

-- the fault of its bytes, or what its tokens tell
abbrev pub by_tokens : {A : Type 0} → (A → Pieces) → ℕ → Result (List Token) LexFault → Result A LineFault → Type 0
by_tokens w end (Err f) told = told ≡ Err (lexed f)
by_tokens {A} w end (Ok tokens) told = (found : Result A Fault) × Tells w most_open (map seen tokens) found × (told ≡ with_place end tokens found)

-- that it is too long, where it is
abbrev pub by_length : {A : Type 0} → (A → Pieces) → List ℕ → Bool → Result A LineFault → Type 0
by_length w bytes true told = told ≡ Err line.LineTooLong
by_length w bytes false told = by_tokens w (length bytes + 1) (tokens_of bytes) told

-- that the line is too long, or its first bad byte, or what its tokens tell
abbrev pub LineTells : {A : Type 0} → (A → Pieces) → List ℕ → Result A LineFault → Type 0
LineTells w bytes told = by_length w bytes (nat_lt line_limit (length bytes)) told
