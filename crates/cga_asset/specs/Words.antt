-- The words of a line, and the numbers that they write.
use Rattle.std.specs.Prelude.{ℕ, ◌+◌, ◌-◌, ◌==◌, ◌||◌, ◌&&◌, Bool, not, nat_le, List, [], ◌∷◌, length, Option, Some, None, Result, Ok, Err, if◌then◌else◌}
use Rattle.std.specs.List.{before_first, filter, slice_split}
use Rattle.std.specs.Str.Parse.{digits_value}
use Rattle.cga_fraction.specs.Arithmetic.{negated}
use Rattle.cga_fraction.specs.Decimals.{decimal_of, is_numeral}
use Rattle.cga_fraction.specs.Rat.{Rat}
use Rattle.cga_fraction.specs.declared.fraction.decimal.DecimalFault.{DecimalFault}

-- a space or a tab
abbrev pub is_blank : ℕ → Bool
is_blank b = b == 32 || b == 9

-- a line split at blanks
abbrev pub words_of : List ℕ → List (List ℕ)
words_of line = filter (λ w. not (length w == 0)) (slice_split is_blank line)

-- ---- coordinates

abbrev pub if_number : Result Rat DecimalFault → Option Rat
if_number (Ok a) = Some a
if_number (Err f) = None

abbrev pub opposite : Option Rat → Option Rat
opposite None = None
opposite (Some a) = Some (negated a)

-- an optional minus, and a decimal
abbrev pub coordinate_of : List ℕ → Option Rat
coordinate_of [] = None
coordinate_of (b ∷ bs) = if b == 45 then opposite (if_number (decimal_of bs)) else if_number (decimal_of (b ∷ bs))

-- ---- corners

-- the number that digits write, where no count is less than it
abbrev pub most_lines : ℕ
most_lines = 4294967295

unfoldable pub whole_of : List ℕ → Option ℕ
whole_of digits = if is_numeral digits && nat_le (digits_value 10 digits) most_lines then Some (digits_value 10 digits) else None

-- 0 names no vertex
abbrev pub unless_zero : Option ℕ → Option ℕ
unless_zero None = None
unless_zero (Some n) = if n == 0 then None else Some n

-- counted backwards over so many vertices
abbrev pub backwards : ℕ → Option ℕ → Option ℕ
backwards before None = None
backwards before (Some n) = if nat_le n before then Some (before + 1 - n) else None

-- the number of a vertex, by the part before the first stroke: of one before the line where there is a minus
abbrev pub by_sign : ℕ → List ℕ → Option ℕ
by_sign before [] = None
by_sign before (b ∷ bs) = if b == 45 then backwards before (unless_zero (whole_of bs)) else unless_zero (whole_of (b ∷ bs))

unfoldable pub corner_of : ℕ → List ℕ → Option ℕ
corner_of before word = by_sign before (before_first (λ b. b == 47) word)
