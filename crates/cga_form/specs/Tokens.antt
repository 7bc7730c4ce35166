-- What single tokens stand for.
use Rattle.std.specs.Prelude.{ℕ, zero, suc, ◌&&◌, ◌==◌, nat_le, ℤ, pos, negsuc, Bool, true, false, List, [], ◌∷◌, map, Option, Some, None, if◌then◌else◌}
use Rattle.cga_fraction.specs.Rat.{Rat}
use Rattle.cga_lexer.specs.declared.sign.Sign.{Sign}
use Rattle.cga_lexer.specs.declared.sign.Sign.TheVariants as s
use Rattle.cga_syntax.specs.Lexemes.{is, is_reserved}
use Rattle.cga_syntax.specs.declared.keyword.Keyword.{Keyword}
use Rattle.cga_syntax.specs.declared.keyword.Keyword.TheVariants as k
use Rattle.cga_syntax.specs.declared.lexeme.Lexeme.{Lexeme}
use Rattle.cga_syntax.specs.declared.lexeme.Lexeme.TheVariants as lexeme
use Rattle.cga_form.specs.declared.chosen.Kind.{Kind}
use Rattle.cga_form.specs.declared.chosen.Kind.TheVariants as kind

-- ---- signs and keywords

-- the place of a sign in the list of signs
abbrev pub sign_number : Sign → ℕ
sign_number s.LeftRound = 0
sign_number s.RightRound = 1
sign_number s.LeftSquare = 2
sign_number s.RightSquare = 3
sign_number s.LeftCurly = 4
sign_number s.RightCurly = 5
sign_number s.Comma = 6
sign_number s.Colon = 7
sign_number s.Bar = 8
sign_number s.Plus = 9
sign_number s.Minus = 10
sign_number s.Star = 11
sign_number s.Slash = 12
sign_number s.Dot = 13
sign_number s.Assign = 14
sign_number s.Arrow = 15
sign_number s.Equal = 16
sign_number s.Unequal = 17
sign_number s.Less = 18
sign_number s.AtMost = 19
sign_number s.Greater = 20
sign_number s.AtLeast = 21

-- the place of a keyword in the list of keywords
abbrev pub keyword_number : Keyword → ℕ
keyword_number k.T = 0
keyword_number k.S = 1
keyword_number k.Rx = 2
keyword_number k.Ry = 3
keyword_number k.Rz = 4
keyword_number k.I = 5
keyword_number k.Subdiv = 6
keyword_number k.Repeat = 7
keyword_number k.Comp = 8
keyword_number k.Nil = 9
keyword_number k.Scope = 10
keyword_number k.Rand = 11
keyword_number k.Floor = 12
keyword_number k.Ceil = 13
keyword_number k.And = 14
keyword_number k.Or = 15
keyword_number k.Not = 16

-- the token is this sign
abbrev pub is_sign : Sign → Lexeme → Bool
is_sign x (lexeme.Sign y) = sign_number x == sign_number y
is_sign x _ = false

-- the token is this reserved word
abbrev pub is_keyword : Keyword → Lexeme → Bool
is_keyword x (lexeme.Keyword y) = keyword_number x == keyword_number y
is_keyword x _ = false

-- nothing but that a test is passed
abbrev pub passing : Bool → Option (Unit {0})
passing true = Some tt
passing false = None

-- this sign
abbrev pub a_sign : Sign → Lexeme → Option (Unit {0})
a_sign x l = passing (is_sign x l)

-- this reserved word
abbrev pub a_keyword : Keyword → Lexeme → Option (Unit {0})
a_keyword x l = passing (is_keyword x l)

-- a name by itself
abbrev pub is_word : List ℕ → Lexeme → Bool
is_word bytes (lexeme.Name name) = is name bytes
is_word bytes _ = false

-- ---- names and numbers

-- a value where the test fails
abbrev pub unless : {A : Type 0} → Bool → A → Option A
unless true a = None
unless false a = Some a

-- a value where the test holds
abbrev pub when : {A : Type 0} → Bool → A → Option A
when true a = Some a
when false a = None

-- a word that isn't reserved
abbrev pub a_name : Lexeme → Option (List ℕ)
a_name (lexeme.Name name) = unless (is_reserved name) name
a_name _ = None

-- a whole number by its numerator, where the denominator is 1
abbrev pub whole_parts : ℤ → ℕ → Option ℕ
whole_parts (pos n) zero = Some n
whole_parts (pos n) (suc d) = None
whole_parts (negsuc n) d = None

-- the whole number that a number is
abbrev pub whole_of : Rat → Option ℕ
whole_of r = whole_parts r.num r.above

-- a whole number that is within bounds
abbrev pub bounded : ℕ → ℕ → Option ℕ → Option ℕ
bounded low high None = None
bounded low high (Some n) = when (nat_le low n && nat_le n high) n

-- a whole number within bounds
abbrev pub a_whole : ℕ → ℕ → Lexeme → Option ℕ
a_whole low high (lexeme.Number value) = bounded low high (whole_of value)
a_whole low high _ = None

-- a number
abbrev pub a_number : Lexeme → Option Rat
a_number (lexeme.Number value) = Some value
a_number _ = None

-- ---- tokens that stand in lists

-- both are the same number
abbrev pub same_whole : Option ℕ → Option ℕ → Bool
same_whole (Some n) (Some m) = m == n
same_whole _ _ = false

-- the second token is the first one, which is no relative number; of numbers, the same whole one
abbrev pub same : Lexeme → Lexeme → Bool
same (lexeme.Sign x) l = is_sign x l
same (lexeme.Keyword x) l = is_keyword x l
same (lexeme.Name bytes) l = is_word bytes l
same (lexeme.Text bytes) (lexeme.Text name) = is name bytes
same (lexeme.Number v) (lexeme.Number w) = same_whole (whole_of v) (whole_of w)
same _ _ = false

-- some values, each beside its token
abbrev pub beside : {A : Type 0} → (A → Lexeme) → List A → List (Lexeme × A)
beside code all = map (λ a. (code a, a)) all

-- the value beside the first token of a list that is the same
abbrev pub chosen : {A : Type 0} → List (Lexeme × A) → Lexeme → Option A
chosen [] l = None
chosen (w ∷ more) l = if same w.0 l then Some w.1 else chosen more l

-- a token of such a list by its kind and bytes
abbrev pub token_of : Kind → List ℕ → Lexeme
token_of kind.Name bytes = lexeme.Name bytes
token_of kind.Text bytes = lexeme.Text bytes
