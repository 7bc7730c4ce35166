-- What stands at the front of a text.
use Rattle.std.specs.Prelude.{ℕ, zero, suc, ◌+◌, ◌==◌, ◌||◌, ◌&&◌, Bool, false, not, List, [], ◌∷◌, length, take, drop, Option, Some, None, Result, Ok, Err, if◌then◌else◌, nat_lt, ◌<◌, ◌≤◌}
use Rattle.cga_word.specs.Name.{begins_name, continues_name}
use Rattle.cga_lexer.specs.Bytes.{run, begins}
use Rattle.std.specs.Char.{is_ascii_digit}
use Rattle.cga_fraction.specs.Decimals.{decimal_of}
use Rattle.cga_fraction.specs.Rat.{Rat}
use Rattle.cga_fraction.specs.declared.fraction.decimal.DecimalFault.{DecimalFault}
use Rattle.cga_lexer.specs.declared.sign.Sign.{Sign}
use Rattle.cga_lexer.specs.declared.sign.Sign.TheVariants as sign
use Rattle.cga_lexer.specs.declared.token.TokenKind.TheVariants as kind
use Rattle.cga_lexer.specs.declared.front.Front.{Front}
use Rattle.cga_lexer.specs.declared.front.Front.TheVariants.{End, Blank, Token, BadByte, BadNumber, LongName, OpenText}

-- ---- numbers

-- how many digits stand behind a point at the front
abbrev pub decimals : List ℕ → ℕ
decimals [] = 0
decimals (b ∷ bs) = if b == 46 then run is_ascii_digit bs else 0

-- the digits with their point, which belongs to the number where a digit follows it
abbrev pub with_point : ℕ → ℕ
with_point zero = 0
with_point (suc n) = suc (suc n)

-- how many bytes the number at the front takes
abbrev pub number_len : List ℕ → ℕ
number_len text = run is_ascii_digit text + with_point (decimals (drop (run is_ascii_digit text) text))

-- how many digits it has, on both sides of the point
abbrev pub digit_count : List ℕ → ℕ
digit_count text = run is_ascii_digit text + decimals (drop (run is_ascii_digit text) text)

-- the digits before the point, and those after it
abbrev pub before : List ℕ → List ℕ
before text = take (run is_ascii_digit text) text

abbrev pub behind : List ℕ → List ℕ
behind text = take (decimals (drop (run is_ascii_digit text) text)) (drop (run is_ascii_digit text + 1) text)

-- an r that no letter, digit or _ follows
abbrev pub is_mark : List ℕ → Bool
is_mark [] = false
is_mark (b ∷ bs) = b == 114 && not (begins continues_name bs)

-- a number by what follows it
abbrev pub followed : Rat → ℕ → List ℕ → Front
followed value len rest =
    if is_mark rest then Token (kind.Relative value) (len + 1)
    else if begins begins_name rest then BadNumber
    else Token (kind.Number value) len

abbrev pub valued : Result Rat DecimalFault → ℕ → List ℕ → Front
valued (Ok value) len rest = followed value len rest
valued (Err fault) len rest = BadNumber

-- the number that begins at the front: at most 18 digits
unfoldable pub number : List ℕ → Front
number text =
    if nat_lt 18 (digit_count text) then BadNumber
    else valued (decimal_of (take (number_len text) text)) (number_len text) (drop (number_len text) text)

-- ---- words and texts

-- the word that begins at the front, taken whole: at most 32 bytes
unfoldable pub word : List ℕ → Front
word text =
    if nat_lt 32 (run continues_name text) then LongName 0
    else Token (kind.Word (take (run continues_name text) text)) (run continues_name text)

-- a name that a quote closes: at most 32 bytes
abbrev pub closed : List ℕ → Front
closed name = if nat_lt 32 (length name) then LongName 1 else Token (kind.Text name) (length name + 2)

-- bytes that can go on a name, by what follows them
abbrev pub enclosed : List ℕ → List ℕ → Front
enclosed name [] = OpenText
enclosed name (b ∷ bs) = if b == 34 && nat_lt 0 (length name) then closed name else BadByte (length name + 1)

-- what begins with a quote, by what stands behind the quote
unfoldable pub quoted : List ℕ → Front
quoted rest =
    if begins is_ascii_digit rest then BadByte 1
    else enclosed (take (run continues_name rest) rest) (drop (run continues_name rest) rest)

-- ---- signs

-- the signs of two bytes
abbrev pub pair : ℕ → ℕ → Option Sign
pair b c =
    if b == 45 && c == 62 then Some sign.Arrow
    else if b == 61 && c == 61 then Some sign.Equal
    else if b == 33 && c == 61 then Some sign.Unequal
    else if b == 60 && c == 61 then Some sign.AtMost
    else if b == 62 && c == 61 then Some sign.AtLeast
    else None

-- the signs of one byte
abbrev pub single : ℕ → Option Sign
single b =
    if b == 40 then Some sign.LeftRound
    else if b == 41 then Some sign.RightRound
    else if b == 91 then Some sign.LeftSquare
    else if b == 93 then Some sign.RightSquare
    else if b == 123 then Some sign.LeftCurly
    else if b == 125 then Some sign.RightCurly
    else if b == 44 then Some sign.Comma
    else if b == 58 then Some sign.Colon
    else if b == 124 then Some sign.Bar
    else if b == 43 then Some sign.Plus
    else if b == 45 then Some sign.Minus
    else if b == 42 then Some sign.Star
    else if b == 47 then Some sign.Slash
    else if b == 46 then Some sign.Dot
    else if b == 61 then Some sign.Assign
    else if b == 60 then Some sign.Less
    else if b == 62 then Some sign.Greater
    else None

abbrev pub short : Option Sign → Front
short None = BadByte 0
short (Some s) = Token (kind.Sign s) 1

abbrev pub long_or : Option Sign → Front → Front
long_or None other = other
long_or (Some s) other = Token (kind.Sign s) 2

-- the sign that begins with a byte: the longest that fits
unfoldable pub sign_of : ℕ → List ℕ → Front
sign_of b [] = short (single b)
sign_of b (c ∷ bs) = long_or (pair b c) (short (single b))

-- ---- the front

-- a blank, a token or a fault, with places from the front; the end of a line or a comment
unfoldable pub front : List ℕ → Front
front [] = End
front (b ∷ bs) =
    if b == 35 then End
    else if b == 32 || b == 9 then Blank
    else if b == 34 then quoted bs
    else if is_ascii_digit b then number (b ∷ bs)
    else if begins_name b then word (b ∷ bs)
    else sign_of b bs

-- a token takes some of the bytes, and a fault stands at one of them
abbrev pub IsWithin : Front → List ℕ → Type 0
IsWithin (Token kind len) text = (0 < len) × (len ≤ length text)
IsWithin (BadByte place) text = place < length text
IsWithin (LongName place) text = place < length text
IsWithin _ text = Unit {0}
