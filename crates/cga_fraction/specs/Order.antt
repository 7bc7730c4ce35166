-- The order of rational numbers.
use Rattle.std.specs.Prelude.{ℕ, suc, ◌+◌, ◌*◌, ℤ, pos, negsuc, Bool, not, nat_le, if◌then◌else◌}
use Rattle.std.specs.Ordering.{nat_cmp}
use Rattle.std.specs.declared.cmp.Ordering.{Ordering}
use Rattle.cga_fraction.specs.Rat.{Rat, den}

-- what a whole number has above 0
abbrev pub positive_part : ℤ → ℕ
positive_part (pos n) = n
positive_part (negsuc n) = 0

-- what it has below 0
abbrev pub negative_part : ℤ → ℕ
negative_part (pos n) = 0
negative_part (negsuc n) = suc n

-- the side of a where a and b are compared by cross products, with what is below 0 on the other side
abbrev pub cross : Rat → Rat → ℕ
cross a b = positive_part a.num * den b + negative_part b.num * den a

-- a ≤ b
unfoldable pub rat_le : Rat → Rat → Bool
rat_le a b = nat_le (cross a b) (cross b a)

-- a < b
abbrev pub rat_lt : Rat → Rat → Bool
rat_lt a b = not (rat_le b a)

-- how a compares with b
unfoldable pub rat_cmp : Rat → Rat → Ordering
rat_cmp a b = nat_cmp (cross a b) (cross b a)

unfoldable pub rat_min : Rat → Rat → Rat
rat_min a b = if rat_le a b then a else b

unfoldable pub rat_max : Rat → Rat → Rat
rat_max a b = if rat_le a b then b else a
