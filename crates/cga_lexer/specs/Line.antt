-- The tokens of a line.
use Rattle.std.specs.Prelude.{ℕ, zero, suc, ◌+◌, ◌-◌, ◌<◌, ◌≤◌, List, [], ◌∷◌, ◌++◌, Result, Ok, Err}
use Rattle.cga_lexer.specs.Front.{front}
use Rattle.cga_lexer.specs.declared.token.Token.{Token}
use Rattle.cga_lexer.specs.declared.fault.LexFault.{LexFault}
use Rattle.cga_lexer.specs.declared.fault.LexFault.TheVariants as fault
use Rattle.cga_lexer.specs.declared.front.Front.{Front}
use Rattle.cga_lexer.specs.declared.front.Front.TheVariants.{End, Blank, Token as Found, BadByte, BadNumber, LongName, OpenText}

abbrev pub Lexed : Type 0
Lexed = Result (List Token) LexFault

-- a token before the tokens or the fault that come after it
abbrev pub behind : Token → Lexed → Lexed
behind t (Ok ts) = Ok (t ∷ ts)
behind t (Err f) = Err f

-- what the front at a place makes of the line, where the rest begins so many bytes behind the next
abbrev pub from_front : Front → ℕ → (ℕ → Lexed) → Lexed
from_front End place on = Ok []
from_front Blank place on = on 0
from_front (Found kind len) place on = behind (record { kind = kind; from = place; to = place + len }) (on (len - 1))
from_front (BadByte n) place on = Err (fault.BadByte (place + n))
from_front BadNumber place on = Err (fault.BadNumber place)
from_front (LongName n) place on = Err (fault.LongName (place + n))
from_front OpenText place on = Err (fault.OpenText place)

-- the tokens of the bytes from a place on, where the first so many of them belong to a token that was read
unfoldable pub lex : ℕ → ℕ → List ℕ → Lexed
lex n place [] = Ok []
lex zero place (b ∷ bs) = from_front (front (b ∷ bs)) place (λ n. lex n (place + 1) bs)
lex (suc n) place (b ∷ bs) = lex n (place + 1) bs

-- the tokens of a line, or its first fault; places count from 1
abbrev pub tokens_of : List ℕ → Lexed
tokens_of line = lex 0 1 line

abbrev pub with_found : List Token → Lexed → Lexed
with_found found (Ok ts) = Ok (found ++ ts)
with_found found (Err f) = Err f

-- from a place on, the tokens stand one behind the other, none is empty, and the last ends by the given place
abbrev pub Rise : ℕ → List Token → ℕ → Type 0
Rise place [] last = place ≤ last
Rise place (t ∷ ts) last = (place ≤ t.from) × (t.from < t.to) × Rise t.to ts last
