-- The operations of expressions: the exact result, or why there is none.
use Rattle.std.specs.Prelude.{ℕ, ◌+◌, ◌*◌, ◌/◌, ◌^◌, pos, Bool, true, false, Result, Ok, Err}
use Rattle.cga_fraction.specs.Rat.{Rat, of_int}
use Rattle.cga_fraction.specs.Arithmetic.{plus, minus, times, negated}
use Rattle.cga_fraction.specs.Refusals.{checked, quotient_of}
use Rattle.cga_fraction.specs.Rounding.{floor_of, ceil_of}
use Rattle.cga_fraction.specs.Results.{and_then, or_err}
use Rattle.cga_fraction.specs.declared.overflow.DivFault.{DivFault}
use Rattle.cga_fraction.specs.declared.overflow.DivFault.TheVariants as division
use Rattle.cga_expr.specs.declared.expr_fault.ExprFault.{ExprFault}
use Rattle.cga_expr.specs.declared.expr_fault.ExprFault.TheVariants.{Overflow, ZeroDivide}

-- a value, or the fault of the operation that is refused
abbrev pub Computed : Type 0
Computed = Result Rat ExprFault

abbrev pub or_fault : Result Rat DivFault → Computed
or_fault (Ok a) = Ok a
or_fault (Err division.ZeroDivide) = Err ZeroDivide
or_fault (Err division.Overflow) = Err Overflow

-- a number, or Overflow where it leaves the range
abbrev pub exact : Rat → Computed
exact a = or_err Overflow (checked a)

-- a / b, or ZeroDivide where b is 0, or Overflow
abbrev pub quotient : Rat → Rat → Computed
quotient a b = or_fault (quotient_of a b)

-- a - b or a + b
abbrev pub added : Bool → Rat → Rat → Computed
added true a b = exact (minus a b)
added false a b = exact (plus a b)

-- a / b or a * b
abbrev pub scaled : Bool → Rat → Rat → Computed
scaled true a b = quotient a b
scaled false a b = exact (times a b)

-- -a or a
abbrev pub signed : Bool → Rat → Rat
signed true a = negated a
signed false a = a

abbrev pub floored : Rat → Computed
floored a = exact (of_int (floor_of a))

abbrev pub ceiled : Rat → Computed
ceiled a = exact (of_int (ceil_of a))

-- which of `steps` + 1 steps, from 0, a word of 32 bits picks
abbrev pub step_of : ℕ → ℕ → ℕ
step_of word steps = word * (steps + 1) / 2 ^ 32

-- low + (high - low) * (step / steps): the difference first, then the quotient, the product and the sum
unfoldable pub drawn : ℕ → ℕ → Rat → Rat → Computed
drawn word steps low high =
    and_then (exact (minus high low)) (λ span.
    and_then (quotient (of_int (pos (step_of word steps))) (of_int (pos steps))) (λ share.
    and_then (exact (times span share)) (λ above. exact (plus low above))))
