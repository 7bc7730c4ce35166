-- A whole number over 1.
use Rattle.std.proofs.Common.{◌≡◌, ℕ, ◌/◌, refl, sym, ap, ◌∙◌, ℤ, pos, negsuc, Ok, Err, Result, arith}
use Rattle.std.specs.Prelude.{unsigned_abs}
use Rattle.cga_fraction.specs.Rat.{Rat, of_int}
use Rattle.cga_fraction.specs.Arithmetic.{reduced, with_sign}
use Rattle.cga_fraction.specs.Refusals.{checked, quotient_of}
use Rattle.cga_fraction.specs.Results.{or_err}
use Rattle.cga_fraction.specs.declared.overflow.DivFault.TheVariants as division
use Rattle.cga_expr.specs.declared.expr_fault.ExprFault.TheVariants as fault
use Rattle.cga_fraction.specs.declared.overflow.Overflow.{Overflow}
use Rattle.cga_fraction.proofs.Door.{by_positive, gcd-one, reduced-parts}
use Rattle.cga_expr.specs.Arithmetic.{or_fault, exact}

with_own_sign : (z : ℤ) → with_sign z (unsigned_abs z) ≡ z
with_own_sign (pos n) = refl
with_own_sign (negsuc n) = refl

over_one : (n : ℕ) → n / 1 ≡ n
over_one n = omega arith

reduced-one : (z : ℤ) → reduced z 1 ≡ of_int z
reduced-one z = reduced-parts z 1 1 (sym (gcd-one (unsigned_abs z))) ∙ ap of_int (ap (with_sign z) (over_one (unsigned_abs z)) ∙ with_own_sign z)

one_fault : (r : Result Rat Overflow) → or_fault (or_err division.Overflow r) ≡ or_err fault.Overflow r
one_fault (Ok a) = refl
one_fault (Err e) = refl

pub whole_is : (z : ℤ) → or_fault (quotient_of (of_int z) (of_int (pos 1))) ≡ exact (of_int z)
whole_is z = ap or_fault (sym (by_positive z 0 (checked (reduced z 1))
    (or_err division.Overflow (checked (reduced z 1))) refl refl)) ∙ one_fault (checked (reduced z 1))
    ∙ ap (λ a. or_err fault.Overflow (checked a)) (reduced-one z)
