-- Whole numbers as fractions.
use Rattle.std.proofs.Common.{◌≡◌, ℕ, ◌*◌, ◌/◌, ◌<◌, ◌^◌, pos, arith, ap, sym, ◌∙◌, Result, Ok}
use Rattle.cga_fraction.specs.Rat.{Rat, of_int}
use Rattle.cga_fraction.specs.Arithmetic.{reduced, times, divided}
use Rattle.cga_fraction.specs.Refusals.{quotient_of, checked}
use Rattle.cga_fraction.specs.Results.{or_err}
use Rattle.cga_fraction.specs.declared.overflow.DivFault.TheVariants as fault
use Rattle.cga_fraction.specs.declared.overflow.DivFault.{DivFault}
use Rattle.cga_fraction.proofs.Door.{checked-in, gcd-one, reduced-parts}

pub whole_reduced : (n : ℕ) → reduced (pos n) 1 ≡ of_int (pos n)
whole_reduced n = reduced-parts (pos n) 1 1 (sym (gcd-one n)) ∙ ap (λ m. of_int (pos m)) (let e : n / 1 ≡ n = omega arith in e)

whole_divided : (n : ℕ) → divided (of_int (pos n)) (of_int (pos 1)) ≡ of_int (pos n)
unfolding divided times
whole_divided n = ap (λ m. reduced (pos m) 1) (let e : n * 1 ≡ n = omega arith in e) ∙ whole_reduced n

pub whole_is : (n : ℕ) → n < 2 ^ 32
    → ◌≡◌ {A = Result Rat DivFault} (quotient_of (of_int (pos n)) (of_int (pos 1))) (Ok (of_int (pos n)))
unfolding quotient_of
whole_is n h = ap (λ q. or_err fault.Overflow (checked q)) (whole_divided n) ∙ ap (or_err fault.Overflow) (checked-in (of_int (pos n)) (omega arith) (omega arith))
