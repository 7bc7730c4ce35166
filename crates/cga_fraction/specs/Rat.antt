-- Rational numbers without bound.
use Rattle.std.specs.Prelude.{◌≡◌, ℕ, ◌+◌, ◌≤◌, ◌<◌, ◌^◌, ℤ, pos, unsigned_abs}
use Rattle.cga_fraction.specs.Gcd.{gcd}

-- num / (above + 1): of the denominator one less is kept, so that none is 0
pub record Rat : Type 0 where
  pub num : ℤ
  pub above : ℕ

-- the denominator
abbrev pub den : Rat → ℕ
den a = a.above + 1

-- a whole number
abbrev pub of_int : ℤ → Rat
of_int z = record { num = z; above = 0 }

abbrev pub zero_rat : Rat
zero_rat = of_int (pos 0)

-- n / d is in lowest terms, with both parts at most 2^62
pub record IsReduced (n : ℤ) (d : ℕ) : Type 0 where
  pub positive : 0 < d
  pub lowest : gcd (unsigned_abs n) d ≡ 1
  pub numerator : unsigned_abs n ≤ 2 ^ 62
  pub denominator : d ≤ 2 ^ 62

-- what every `Fraction` is: in lowest terms and in range
abbrev pub IsFraction : Rat → Type 0
IsFraction a = IsReduced a.num (den a)
