-- Arithmetic of rational numbers: every result is in lowest terms, and none is refused.
use Rattle.std.specs.Prelude.{ℕ, zero, suc, ◌*◌, ◌/◌, ◌-◌, ℤ, pos, negsuc, ◌+ℤ◌, ◌*ℤ◌, ◌-ℤ◌, neg_ℤ, unsigned_abs}
use Rattle.cga_fraction.specs.Gcd.{gcd}
use Rattle.cga_fraction.specs.Rat.{Rat, den, of_int}

-- a magnitude with the sign of a number
abbrev pub with_sign : ℤ → ℕ → ℤ
with_sign (pos n) m = pos m
with_sign (negsuc n) m = neg_ℤ (pos m)

-- n / d in lowest terms, where d is above 0
unfoldable pub reduced : ℤ → ℕ → Rat
reduced n d =
    let g = gcd (unsigned_abs n) d in record { num = with_sign n (unsigned_abs n / g); above = d / g - 1 }

unfoldable pub plus : Rat → Rat → Rat
plus a b = reduced (a.num *ℤ pos (den b) +ℤ b.num *ℤ pos (den a)) (den a * den b)

unfoldable pub minus : Rat → Rat → Rat
minus a b = reduced (a.num *ℤ pos (den b) -ℤ b.num *ℤ pos (den a)) (den a * den b)

unfoldable pub times : Rat → Rat → Rat
times a b = reduced (a.num *ℤ b.num) (den a * den b)

abbrev pub negated : Rat → Rat
negated a = record { num = neg_ℤ a.num; above = a.above }

-- (d + 1) / n
abbrev pub inverse_of : ℤ → ℕ → Rat
inverse_of (pos zero) d = of_int (pos 0)
inverse_of (pos (suc n)) d = record { num = pos (suc d); above = n }
inverse_of (negsuc n) d = record { num = negsuc d; above = n }

-- 1 / a, for a number other than 0
abbrev pub inverse : Rat → Rat
inverse a = inverse_of a.num a.above

-- a / b, for a number b other than 0
unfoldable pub divided : Rat → Rat → Rat
divided a b = times a (inverse b)
