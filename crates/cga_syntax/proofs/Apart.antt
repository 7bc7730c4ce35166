-- What ends a token, and which bytes are no second byte of a sign.
use Rattle.std.proofs.Common.{◌≡◌, ℕ, ◌+◌, ◌-◌, ◌<◌, true, false, List, [], ◌∷◌, ◌++◌, length}
use Rattle.std.proofs.Common.{arith, ap, ◌∙◌, refl}
use Rattle.std.proofs.Common.{inl, inr}
use Rattle.std.specs.Char.{is_ascii_digit}
use Rattle.std.specs.List.{list_all}
use Rattle.std.proofs.lemmas.Bool.Decides.{nat_tests}
use Rattle.cga_word.specs.Name.{begins_name, continues_name}
use Rattle.cga_fraction.specs.Decimals.{is_point}
use Rattle.cga_fraction.specs.Texts.{literal_text_of}
use Rattle.cga_fraction.proofs.Door.{literal_is_shortest}
use Rattle.cga_lexer.specs.Bytes.{begins}
use Rattle.cga_lexer.specs.Line.{behind}
use Rattle.cga_lexer.specs.declared.sign.Sign.{Sign}
use Rattle.cga_lexer.specs.declared.sign.Sign.TheVariants as s
use Rattle.cga_syntax.specs.Lexemes.{keyword_bytes}
use Rattle.cga_syntax.specs.Printing.{sign_bytes, lexeme_bytes, opens_up, ends_up, is_left, is_right, is_word}
use Rattle.cga_syntax.specs.Printing.{is_minus, is_colon, begins_primary}
use Rattle.cga_syntax.specs.Reading.{IsToken}
use Rattle.cga_syntax.specs.declared.keyword.Keyword.{Keyword}
use Rattle.cga_syntax.specs.declared.keyword.Keyword.TheVariants as k
use Rattle.cga_syntax.specs.declared.lexeme.Lexeme.{Lexeme}
use Rattle.cga_syntax.specs.declared.lexeme.Lexeme.TheVariants as lexeme
use Rattle.cga_syntax.proofs.Fronts.{Shape, shape, Named, named_of}
use Rattle.cga_syntax.proofs.Signs.{second, Ends}
use Rattle.std.proofs.lemmas.Bool.{and_parts as both}

-- ---- what ends a token

-- no token goes on with what follows
pub record Closed (rest : List ℕ) : Type 0 where
  pub word : begins continues_name rest ≡ false
  pub point : begins is_point rest ≡ false
  pub sign : begins second rest ≡ false

pub closed_ends : (l : Lexeme) (rest : List ℕ) → Closed rest → Ends l rest
closed_ends (lexeme.Number value) rest c = (c.word, c.point)
closed_ends (lexeme.Relative value) rest c = c.word
closed_ends (lexeme.Keyword word) rest c = c.word
closed_ends (lexeme.Name name) rest c = c.word
closed_ends (lexeme.Text name) rest c = tt
closed_ends (lexeme.Sign sign) rest c = inr c.sign

-- behind a ( or a .
pub left_ends : (l : Lexeme) (rest : List ℕ) → is_left l ≡ true → Ends l rest
left_ends (lexeme.Number value) rest h = absurd (let q : false ≡ true = h in cc)
left_ends (lexeme.Relative value) rest h = absurd (let q : false ≡ true = h in cc)
left_ends (lexeme.Keyword word) rest h = absurd (let q : false ≡ true = h in cc)
left_ends (lexeme.Name name) rest h = absurd (let q : false ≡ true = h in cc)
left_ends (lexeme.Text name) rest h = tt
left_ends (lexeme.Sign sign) rest h = inl h

-- a ) and a , end each token
right_sign : (sign : Sign) (rest : List ℕ) → ends_up sign ≡ true → Closed (sign_bytes sign ++ rest)
right_sign s.RightRound rest h = record { word = refl; point = refl; sign = refl }
right_sign s.Comma rest h = record { word = refl; point = refl; sign = refl }
right_sign _ rest h = absurd (let q : false ≡ true = h in cc)

pub right_closes : (l : Lexeme) (rest : List ℕ) → is_right l ≡ true → Closed (lexeme_bytes l ++ rest)
right_closes (lexeme.Number value) rest h = absurd (let q : false ≡ true = h in cc)
right_closes (lexeme.Relative value) rest h = absurd (let q : false ≡ true = h in cc)
right_closes (lexeme.Keyword word) rest h = absurd (let q : false ≡ true = h in cc)
right_closes (lexeme.Name name) rest h = absurd (let q : false ≡ true = h in cc)
right_closes (lexeme.Text name) rest h = absurd (let q : false ≡ true = h in cc)
right_closes (lexeme.Sign sign) rest h = right_sign sign rest h

-- a colon does
colon_sign : (sign : Sign) (rest : List ℕ) → is_colon (lexeme.Sign sign) ≡ true → Closed (sign_bytes sign ++ rest)
colon_sign s.Colon rest h = record { word = refl; point = refl; sign = refl }
colon_sign _ rest h = absurd (let q : false ≡ true = h in cc)

pub colon_closes : (l : Lexeme) (rest : List ℕ) → is_colon l ≡ true → Closed (lexeme_bytes l ++ rest)
colon_closes (lexeme.Number value) rest h = absurd (let q : false ≡ true = h in cc)
colon_closes (lexeme.Relative value) rest h = absurd (let q : false ≡ true = h in cc)
colon_closes (lexeme.Keyword word) rest h = absurd (let q : false ≡ true = h in cc)
colon_closes (lexeme.Name name) rest h = absurd (let q : false ≡ true = h in cc)
colon_closes (lexeme.Text name) rest h = absurd (let q : false ≡ true = h in cc)
colon_closes (lexeme.Sign sign) rest h = colon_sign sign rest h

-- a ( and a . end a word
left_sign : (sign : Sign) (rest : List ℕ) → opens_up sign ≡ true
    → begins continues_name (sign_bytes sign ++ rest) ≡ false
left_sign s.LeftRound rest h = refl
left_sign s.Dot rest h = refl
left_sign _ rest h = absurd (let q : false ≡ true = h in cc)

pub left_first : (l : Lexeme) (rest : List ℕ) → is_left l ≡ true
    → begins continues_name (lexeme_bytes l ++ rest) ≡ false
left_first (lexeme.Number value) rest h = absurd (let q : false ≡ true = h in cc)
left_first (lexeme.Relative value) rest h = absurd (let q : false ≡ true = h in cc)
left_first (lexeme.Keyword word) rest h = absurd (let q : false ≡ true = h in cc)
left_first (lexeme.Name name) rest h = absurd (let q : false ≡ true = h in cc)
left_first (lexeme.Text name) rest h = absurd (let q : false ≡ true = h in cc)
left_first (lexeme.Sign sign) rest h = left_sign sign rest h

pub word_ends : (l : Lexeme) (rest : List ℕ) → is_word l ≡ true → begins continues_name rest ≡ false → Ends l rest
word_ends (lexeme.Number value) rest h e = absurd (let q : false ≡ true = h in cc)
word_ends (lexeme.Relative value) rest h e = absurd (let q : false ≡ true = h in cc)
word_ends (lexeme.Keyword word) rest h e = e
word_ends (lexeme.Name name) rest h e = e
word_ends (lexeme.Text name) rest h e = tt
word_ends (lexeme.Sign sign) rest h e = absurd (let q : false ≡ true = h in cc)

-- what begins a primary is no second byte of a sign
digit_apart : (b : ℕ) → is_ascii_digit b ≡ true → second b ≡ false
digit_apart b h = grind (arith, nat_tests)

name_apart : (b : ℕ) → begins_name b ≡ true → second b ≡ false
name_apart b h = grind (arith, nat_tests)

whole_apart : (whole more rest : List ℕ) → 0 < length whole → list_all is_ascii_digit whole ≡ true
    → begins second ((whole ++ more) ++ rest) ≡ false
whole_apart [] more rest h d = absurd (omega arith)
whole_apart (b ∷ bs) more rest h d = digit_apart b (both (is_ascii_digit b) (list_all is_ascii_digit bs) d).0

number_apart : (text rest : List ℕ) → Shape text → begins second (text ++ rest) ≡ false
number_apart text rest p = ap (λ z. begins second (z ++ rest)) p.split ∙ whole_apart p.whole _ rest p.some p.digits

named_apart : (name rest : List ℕ) → Named name → begins second (name ++ rest) ≡ false
named_apart [] rest n = absurd (let q : false ≡ true = n.begun in cc)
named_apart (b ∷ bs) rest n = name_apart b n.begun

keyword_apart : (word : Keyword) (rest : List ℕ) → begins second (keyword_bytes word ++ rest) ≡ false
keyword_apart k.T rest = refl
keyword_apart k.S rest = refl
keyword_apart k.Rx rest = refl
keyword_apart k.Ry rest = refl
keyword_apart k.Rz rest = refl
keyword_apart k.I rest = refl
keyword_apart k.Subdiv rest = refl
keyword_apart k.Repeat rest = refl
keyword_apart k.Comp rest = refl
keyword_apart k.Nil rest = refl
keyword_apart k.Scope rest = refl
keyword_apart k.Rand rest = refl
keyword_apart k.Floor rest = refl
keyword_apart k.Ceil rest = refl
keyword_apart k.And rest = refl
keyword_apart k.Or rest = refl
keyword_apart k.Not rest = refl

primary_sign : (sign : Sign) (rest : List ℕ) → begins_primary (lexeme.Sign sign) ≡ true
    → begins second (sign_bytes sign ++ rest) ≡ false
primary_sign s.LeftRound rest h = refl
primary_sign _ rest h = absurd (let q : false ≡ true = h in cc)

-- where a token such as a line has begins a primary, its text begins with no second byte of a sign
pub primary_apart : (l : Lexeme) (rest : List ℕ) → IsToken l → begins_primary l ≡ true
    → begins second (lexeme_bytes l ++ rest) ≡ false
primary_apart (lexeme.Number value) rest t h = number_apart (literal_text_of value) rest (shape (literal_text_of value) value (literal_is_shortest value t).reads)
primary_apart (lexeme.Relative value) rest t h = absurd (let q : false ≡ true = h in cc)
primary_apart (lexeme.Keyword word) rest t h = keyword_apart word rest
primary_apart (lexeme.Name name) rest t h = named_apart name rest (named_of name t.0)
primary_apart (lexeme.Text name) rest t h = absurd (let q : false ≡ true = h in cc)
primary_apart (lexeme.Sign sign) rest t h = primary_sign sign rest h

pub minus_ends : (l : Lexeme) (rest : List ℕ) → is_minus l ≡ true → begins second rest ≡ false → Ends l rest
minus_ends (lexeme.Number value) rest h e = absurd (let q : false ≡ true = h in cc)
minus_ends (lexeme.Relative value) rest h e = absurd (let q : false ≡ true = h in cc)
minus_ends (lexeme.Keyword word) rest h e = absurd (let q : false ≡ true = h in cc)
minus_ends (lexeme.Name name) rest h e = absurd (let q : false ≡ true = h in cc)
minus_ends (lexeme.Text name) rest h e = tt
minus_ends (lexeme.Sign sign) rest h e = inr e
