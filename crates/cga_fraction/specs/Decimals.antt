-- Decimal texts read as numbers.
use Rattle.std.specs.Prelude.{◌≡◌, ℕ, ◌+◌, ◌≤◌, ◌^◌, ◌==◌, pos, List, [], length, ◌++◌, take, drop, position, Bool, not, ◌&&◌, nat_le, Option, Some, None, Result, Ok, Err, if◌then◌else◌}
use Rattle.std.specs.Char.{is_ascii_digit}
use Rattle.std.specs.List.{list_all}
use Rattle.std.specs.Str.Parse.{digits_value}
use Rattle.cga_fraction.specs.Rat.{Rat}
use Rattle.cga_fraction.specs.Arithmetic.{reduced}
use Rattle.cga_fraction.specs.declared.fraction.decimal.DecimalFault.{DecimalFault}
use Rattle.cga_fraction.specs.declared.fraction.decimal.DecimalFault.TheVariants.{NotNumber, TooManyDigits}

-- digits, at least one, and nothing else
abbrev pub is_numeral : List ℕ → Bool
is_numeral text = not (length text == 0) && list_all is_ascii_digit text

-- the number that digits write, some before a point and some after it
abbrev pub value_of : List ℕ → List ℕ → Rat
value_of whole places = reduced (pos (digits_value 10 (whole ++ places))) (10 ^ length places)

-- the most digits of a number, on both sides of the point together
abbrev pub most_digits : ℕ
most_digits = 18

-- that number, where there are not more
abbrev pub limited : List ℕ → List ℕ → Result Rat DecimalFault
limited whole places = if nat_le (length whole + length places) most_digits then Ok (value_of whole places) else Err TooManyDigits

-- what stands before the point, and digits after it, read as a number
abbrev pub read_of : List ℕ → List ℕ → Result Rat DecimalFault
read_of whole places = if is_numeral whole then limited whole places else Err NotNumber

-- a text with a point at this place, read as a number: there are digits on both sides of the point
abbrev pub read_at : List ℕ → Option ℕ → Result Rat DecimalFault
read_at text None = read_of text []
read_at text (Some i) = if is_numeral (drop (i + 1) text) then read_of (take i text) (drop (i + 1) text) else Err NotNumber

abbrev pub is_point : ℕ → Bool
is_point c = c == 46

-- the number that a text is read as, or why it is read as none: digits, then optionally a point and digits
unfoldable pub decimal_of : List ℕ → Result Rat DecimalFault
decimal_of text = read_at text (position is_point text)

-- some text is read as a
abbrev pub IsLiteral : Rat → Type 0
IsLiteral a = (text : List ℕ) × (decimal_of text ≡ Ok a)

-- text is read as a, and no shorter text is
pub record IsShortest (a : Rat) (text : List ℕ) : Type 0 where
  pub reads : decimal_of text ≡ Ok a
  pub shortest : (other : List ℕ) → decimal_of other ≡ Ok a → length text ≤ length other
