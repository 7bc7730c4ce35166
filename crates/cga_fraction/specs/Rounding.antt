-- Rational numbers rounded to whole numbers.
use Rattle.std.specs.Prelude.{ℕ, ◌/◌, ℤ, pos, negsuc, ◌+ℤ◌, ◌-ℤ◌, neg_ℤ, IsTrue}
use Rattle.cga_fraction.specs.Rat.{Rat, den, of_int}
use Rattle.cga_fraction.specs.Arithmetic.{negated}
use Rattle.cga_fraction.specs.Order.{rat_le, rat_lt}

-- z is the greatest whole number that is at most a
pub record IsFloor (a : Rat) (z : ℤ) : Type 0 where
  pub below : IsTrue (rat_le (of_int z) a)
  pub greatest : IsTrue (rat_lt a (of_int (z +ℤ pos 1)))

-- z is the least whole number that is at least a
pub record IsCeil (a : Rat) (z : ℤ) : Type 0 where
  pub above : IsTrue (rat_le a (of_int z))
  pub least : IsTrue (rat_lt (of_int (z -ℤ pos 1)) a)

-- n / d, rounded down
abbrev pub floor_div : ℤ → ℕ → ℤ
floor_div (pos n) d = pos (n / d)
floor_div (negsuc n) d = negsuc (n / d)

-- the greatest whole number that is at most a
unfoldable pub floor_of : Rat → ℤ
floor_of a = floor_div a.num (den a)

-- the least whole number that is at least a
abbrev pub ceil_of : Rat → ℤ
ceil_of a = neg_ℤ (floor_of (negated a))
