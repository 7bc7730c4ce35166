-- Where an operation is refused.
use Rattle.std.specs.Prelude.{◌^◌, zero, suc, ℤ, pos, negsuc, Bool, true, false, ◌&&◌, nat_le, unsigned_abs, Result, Ok, Err, if◌then◌else◌}
use Rattle.cga_fraction.specs.Rat.{Rat, den}
use Rattle.cga_fraction.specs.Arithmetic.{divided}
use Rattle.cga_fraction.specs.Results.{or_err}
use Rattle.cga_fraction.specs.declared.overflow.Overflow as Unit
use Rattle.cga_fraction.specs.declared.overflow.DivFault.{DivFault}
use Rattle.cga_fraction.specs.declared.overflow.DivFault.TheVariants.{ZeroDivide, Overflow}

-- -2^62 ≤ n ≤ 2^62 and d ≤ 2^62
abbrev pub in_range : Rat → Bool
in_range a = nat_le (unsigned_abs a.num) (2 ^ 62) && nat_le (den a) (2 ^ 62)

-- the exact result, or the refusal where it leaves the range
unfoldable pub checked : Rat → Result Rat Unit.Overflow
checked a = if in_range a then Ok a else Err (record {})

abbrev pub is_zero : ℤ → Bool
is_zero (pos zero) = true
is_zero (pos (suc n)) = false
is_zero (negsuc n) = false

-- a / b, or the fault: first that b is 0
unfoldable pub quotient_of : Rat → Rat → Result Rat DivFault
quotient_of a b = if is_zero b.num then Err ZeroDivide else or_err Overflow (checked (divided a b))
