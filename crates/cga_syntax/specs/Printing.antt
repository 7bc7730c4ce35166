-- What a rule is printed as: its tokens in order, and where no space stands between two of them.
use Rattle.std.specs.Prelude.{ℕ, zero, suc, ◌+◌, ◌&&◌, ◌||◌, ◌==◌, ℤ, pos, negsuc, List, [], ◌∷◌, ◌++◌, Bool, true, false, if◌then◌else◌, Option, Some, None, codes}
use Rattle.std.specs.List.{All}
use Rattle.cga_fraction.specs.Rat.{Rat}
use Rattle.cga_fraction.specs.Decimals.{IsLiteral}
use Rattle.cga_fraction.specs.Texts.{literal_text_of}
use Rattle.cga_lexer.specs.declared.sign.Sign.{Sign}
use Rattle.cga_lexer.specs.declared.sign.Sign.TheVariants as s
use Rattle.cga_word.specs.declared.turn.Turn.{Turn}
use Rattle.cga_word.specs.declared.turn.Turn.TheVariants as turn
use Rattle.cga_syntax.specs.Lexemes.{keyword_bytes}
use Rattle.cga_syntax.specs.Pieces.{Piece, sign, word, token, drawn, turned, probability, valued, never, number}
use Rattle.cga_syntax.specs.declared.keyword.Keyword.TheVariants as k
use Rattle.cga_syntax.specs.declared.lexeme.Lexeme.{Lexeme}
use Rattle.cga_syntax.specs.declared.lexeme.Lexeme.TheVariants as lexeme
use Rattle.cga_syntax.specs.declared.print.space.Space.{Space}
use Rattle.cga_syntax.specs.declared.print.space.Space.TheVariants as space
use Rattle.cga_syntax.specs.declared.print.mark.Mark.{Mark}

-- ---- tokens

abbrev pub marked : Space → Lexeme → Mark
marked beside l = record { lexeme = l; space = beside }

abbrev pub usually : Lexeme → Mark
usually l = marked space.Usual l

abbrev pub degrees : Turn → ℕ
degrees turn.By0 = 0
degrees turn.By90 = 90
degrees turn.By180 = 180
degrees turn.By270 = 270

abbrev pub is_whole_one : ℤ → Bool
is_whole_one (pos n) = n == 1
is_whole_one (negsuc n) = false

abbrev pub is_one : Rat → Bool
is_one p = is_whole_one p.num && p.above == 0

-- a whole number, or two with a slash between them where the denominator isn't 1
abbrev pub magnitude : ℕ → ℕ → List Mark
magnitude n zero = usually (number n) ∷ []
magnitude n (suc above) = usually (number n) ∷ usually (lexeme.Sign s.Slash) ∷ usually (number (suc above + 1)) ∷ []

abbrev pub exactly : ℤ → ℕ → List Mark
exactly (pos n) above = magnitude n above
exactly (negsuc n) above = marked space.NoneAfter (lexeme.Sign s.Minus) ∷ magnitude (suc n) above

-- the tokens that a piece is printed as: a turn is its degrees, and a probability of 1 is left out
abbrev pub printed_piece : Piece → List Mark
printed_piece (token beside l) = marked beside l ∷ []
printed_piece (drawn j) = usually (lexeme.Keyword k.Rand) ∷ []
printed_piece (turned t) = usually (number (degrees t)) ∷ []
printed_piece (probability p) = if is_one p then [] else usually (lexeme.Sign s.Colon) ∷ usually (lexeme.Number p) ∷ []
printed_piece (valued v) = exactly v.num v.above
printed_piece never = []

abbrev pub printed : List Piece → List Mark
printed [] = []
printed (p ∷ ps) = printed_piece p ++ printed ps

-- the pieces, printed after the tokens before them
abbrev pub printed_on : List Mark → List Piece → List Mark
printed_on ms [] = ms
printed_on ms (p ∷ ps) = printed_on (ms ++ printed_piece p) ps

-- ---- bytes

abbrev pub sign_bytes : Sign → List ℕ
sign_bytes s.LeftRound = codes "("
sign_bytes s.RightRound = codes ")"
sign_bytes s.LeftSquare = codes "["
sign_bytes s.RightSquare = codes "]"
sign_bytes s.LeftCurly = codes "{"
sign_bytes s.RightCurly = codes "}"
sign_bytes s.Comma = codes ","
sign_bytes s.Colon = codes ":"
sign_bytes s.Bar = codes "|"
sign_bytes s.Plus = codes "+"
sign_bytes s.Minus = codes "-"
sign_bytes s.Star = codes "*"
sign_bytes s.Slash = codes "/"
sign_bytes s.Dot = codes "."
sign_bytes s.Assign = codes "="
sign_bytes s.Arrow = codes "->"
sign_bytes s.Equal = codes "=="
sign_bytes s.Unequal = codes "!="
sign_bytes s.Less = codes "<"
sign_bytes s.AtMost = codes "<="
sign_bytes s.Greater = codes ">"
sign_bytes s.AtLeast = codes ">="

abbrev pub lexeme_bytes : Lexeme → List ℕ
lexeme_bytes (lexeme.Number value) = literal_text_of value
lexeme_bytes (lexeme.Relative value) = literal_text_of value ++ codes "r"
lexeme_bytes (lexeme.Keyword word) = keyword_bytes word
lexeme_bytes (lexeme.Name name) = name
lexeme_bytes (lexeme.Text name) = codes "\"" ++ (name ++ codes "\"")
lexeme_bytes (lexeme.Sign sign) = sign_bytes sign

-- the token has a text: its number is one that some text is read as
abbrev pub HasText : Lexeme → Type 0
HasText (lexeme.Number value) = IsLiteral value
HasText (lexeme.Relative value) = IsLiteral value
HasText (lexeme.Keyword word) = Unit {0}
HasText (lexeme.Name name) = Unit {0}
HasText (lexeme.Text name) = Unit {0}
HasText (lexeme.Sign sign) = Unit {0}

abbrev pub HaveTexts : List Mark → Type 0
HaveTexts ms = All (λ m. HasText m.lexeme) ms

-- ---- spaces

-- a ( or a .
abbrev pub opens_up : Sign → Bool
opens_up s.LeftRound = true
opens_up s.Dot = true
opens_up _ = false

-- a ) or a ,
abbrev pub ends_up : Sign → Bool
ends_up s.RightRound = true
ends_up s.Comma = true
ends_up _ = false

abbrev pub is_left : Lexeme → Bool
is_left (lexeme.Sign sign) = opens_up sign
is_left _ = false

abbrev pub is_right : Lexeme → Bool
is_right (lexeme.Sign sign) = ends_up sign
is_right _ = false

abbrev pub is_word : Lexeme → Bool
is_word (lexeme.Keyword word) = true
is_word (lexeme.Name name) = true
is_word _ = false

-- a number, a word or a (
abbrev pub begins_primary : Lexeme → Bool
begins_primary (lexeme.Number value) = true
begins_primary (lexeme.Keyword word) = true
begins_primary (lexeme.Name name) = true
begins_primary (lexeme.Sign s.LeftRound) = true
begins_primary _ = false

abbrev pub is_minus : Lexeme → Bool
is_minus (lexeme.Sign s.Minus) = true
is_minus _ = false

abbrev pub is_colon : Lexeme → Bool
is_colon (lexeme.Sign s.Colon) = true
is_colon _ = false

abbrev pub is_none_after : Space → Bool
is_none_after space.NoneAfter = true
is_none_after _ = false

abbrev pub is_none_before : Space → Bool
is_none_before space.NoneBefore = true
is_none_before _ = false

-- a - that begins a factor
abbrev pub is_prefix : Mark → Bool
is_prefix m = is_minus m.lexeme && is_none_after m.space

-- the : after the id
abbrev pub is_label : Mark → Bool
is_label m = is_colon m.lexeme && is_none_before m.space

-- no space stands between two neighbours: after a ( or a . ; before a ) or a , ; before a ( or a . that directly
-- follows a word ; after a - that begins a factor, before what begins a primary ; before the : after the id
abbrev pub closes_up : Mark → Mark → Bool
closes_up a b =
    is_left a.lexeme || is_right b.lexeme || (is_word a.lexeme && is_left b.lexeme)
    || (is_prefix a && begins_primary b.lexeme) || is_label b

-- the space before a token, which the one before it decides
abbrev pub space_before : Option Mark → Mark → List ℕ
space_before None m = []
space_before (Some before) m = if closes_up before m then [] else codes " "

-- the text of tokens after one that comes before
abbrev pub text_after : Option Mark → List Mark → List ℕ
text_after last [] = []
text_after last (m ∷ ms) = space_before last m ++ (lexeme_bytes m.lexeme ++ text_after (Some m) ms)

abbrev pub text_of : List Mark → List ℕ
text_of ms = text_after None ms
