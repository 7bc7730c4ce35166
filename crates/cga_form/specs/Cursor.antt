-- What a cursor over tokens stands for, and what a function that reads with it ensures.
use Rattle.std.specs.Prelude.{◌≡◌, false, map, Result, Ok, Err, Option, Some}
use Rattle.cga_lexer.specs.declared.token.Token.{Token}
use Rattle.cga_syntax.specs.Lexemes.{lexeme_of, is_reserved}
use Rattle.cga_syntax.specs.declared.lexeme.Lexeme.{Lexeme}
use Rattle.cga_syntax.specs.declared.lexeme.Lexeme.TheVariants as lexeme
use Rattle.cga_form.specs.declared.tokens.Tokens.{Tokens}
use Rattle.cga_fraction.specs.declared.stop.Stop.{Stop}
use Rattle.cga_fraction.specs.declared.stop.Stop.TheVariants as stop
use Rattle.cga_form.specs.declared.fault.Fault.{Fault}
use Rattle.cga_form.specs.Reader.{Input, at, ReadResult}

-- a token as the forms see it
abbrev pub seen : Token → Lexeme
seen t = lexeme_of t.kind

-- the tokens that are left, and how many rands were read
abbrev pub input_of : Tokens → Input
input_of t = at (map seen t.rest.now) t.rands

-- a stop is the reader's refusal, unless memory ran out
abbrev pub Fails : {A : Type 0} → Stop Fault → ReadResult A → Type 0
Fails stop.NoMemory o = Unit {0}
Fails (stop.Fault f) o = o ≡ Err f

-- unless memory runs out, a function that reads gives the reader's outcome
abbrev pub Reads : {A : Type 0} → ReadResult A → Result A (Stop Fault) → Input → Type 0
Reads o (Ok a) new = o ≡ Ok (a, new)
Reads o (Err e) new = Fails e o

-- a function that takes no memory gives the reader's outcome
abbrev pub Finds : {A : Type 0} → ReadResult A → Result A Fault → Input → Type 0
Finds o (Ok a) new = o ≡ Ok (a, new)
Finds o (Err f) new = o ≡ Err f

-- a name isn't reserved
abbrev pub IsProper : Option Lexeme → Type 0
IsProper (Some (lexeme.Name name)) = is_reserved name ≡ false
IsProper _ = Unit {0}
