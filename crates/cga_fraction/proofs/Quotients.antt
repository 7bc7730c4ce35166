-- Differences and quotients by what the code forms.
use Rattle.std.proofs.Common.{◌≡◌, ℕ, zero, suc, ◌*◌, ◌<◌, ◌≤◌, ◌^◌, refl, sym, ap, ◌∙◌, arith, ℤ, pos, negsuc, neg_ℤ, Err, Result, false, ◌≢◌, w64, to_z, of_z}
use Rattle.std.specs.Prelude.{unsigned_abs, ◌*ℤ◌, ◌+ℤ◌, ◌-ℤ◌, ◌<ℤ◌}
use Rattle.std.proofs.lemmas.Int.{ints, to_z-of_z, to_z_pos}
use Rattle.std.specs.Int.RustNames.{FitsSigned}
use mir.Val.{hbits}
use Rattle.std.proofs.lemmas.Nat.Gcd.{IsGcd-swap, same_from_IsGcd}
use borrow.Author.Differences.{same_in}
use Rattle.cga_fraction.specs.Gcd.{gcd}
use Rattle.cga_fraction.specs.Rat.{Rat, den, of_int, IsReduced}
use Rattle.cga_fraction.specs.Order.{positive_part, negative_part}
use Rattle.cga_fraction.specs.Arithmetic.{plus, minus, times, negated, inverse, divided, reduced}
use Rattle.cga_fraction.specs.Refusals.{checked, quotient_of, is_zero}
use Rattle.cga_fraction.specs.Results.{or_err}
use Rattle.cga_fraction.specs.declared.overflow.DivFault.TheVariants as fault
use Rattle.cga_fraction.specs.declared.overflow.Overflow.{Overflow}
use Rattle.cga_fraction.specs.declared.overflow.DivFault.{DivFault}
use Rattle.cga_fraction.specs.declared.overflow.DivFault.TheVariants.{ZeroDivide}
use Rattle.cga_fraction.proofs.Gcds.{gcd-IsGcd}
use Rattle.cga_fraction.proofs.Order.{neg_parts, scaled_parts}

pub neg-scaled : (x : ℤ) (k : ℕ) → neg_ℤ x *ℤ pos k ≡ neg_ℤ (x *ℤ pos k)
neg-scaled x k =
    let a = scaled_parts (neg_ℤ x) k in
    let b = scaled_parts x k in
    let c = neg_parts (x *ℤ pos k) in
    let d = neg_parts x in
    let p : positive_part (neg_ℤ x) * k ≡ negative_part x * k = ap (λ z. z * k) d.0 in
    let q : negative_part (neg_ℤ x) * k ≡ positive_part x * k = ap (λ z. z * k) d.1 in
    same_in (neg_ℤ x *ℤ pos k) (neg_ℤ (x *ℤ pos k)) (omega (arith, a.0, a.1, b.0, b.1, c.0, c.1, p, q))

plus-neg : (x y : ℤ) → x +ℤ neg_ℤ y ≡ x -ℤ y
plus-neg x y = omega (arith, ints)

-- to take away is to add the negative
pub plus-negated : (a b : Rat) → plus a (negated b) ≡ minus a b
unfolding plus minus
plus-negated a b = rw (neg-scaled b.num (den a)) (rw (plus-neg (a.num *ℤ pos (den b)) (b.num *ℤ pos (den a))) refl)

pub difference_is : (a b n : Rat) (r : Result Rat Overflow) → n ≡ negated b → r ≡ checked (plus a n)
    → r ≡ checked (minus a b)
difference_is a b n r e h = rw (h, e, plus-negated) refl

gcd-swap : (a b : ℕ) → gcd a b ≡ gcd b a
gcd-swap a b = same_from_IsGcd a b _ _ (gcd-IsGcd a b) (IsGcd-swap b a _ (gcd-IsGcd b a))

-- ---- the inverse

abs_positive : (n : ℤ) → n ≢ pos 0 → 0 < unsigned_abs n
abs_positive (pos zero) h = absurd (h refl)
abs_positive (pos (suc n)) h = omega arith
abs_positive (negsuc n) h = omega arith

not_zero : (n : ℤ) → (n ≡ pos 0 → ⊥) → is_zero n ≡ false
not_zero (pos zero) h = absurd (h refl)
not_zero (pos (suc n)) h = refl
not_zero (negsuc n) h = refl

-- numerator and denominator change places
pub swapped : (n : ℤ) (d : ℕ) (top : ℤ) (u : ℕ) → IsReduced n d → n ≢ pos 0 → unsigned_abs top ≡ d → u ≡ unsigned_abs n
    → IsReduced top u
swapped n d top u h some e f = record {
  positive = rw f (abs_positive n some);
  lowest = rw (e, f) (gcd-swap d (unsigned_abs n) ∙ h.lowest);
  numerator = rw e h.denominator;
  denominator = rw f h.numerator;
}

pub abs-pos : (d : ℕ) → d ≤ 2 ^ 62 → unsigned_abs (to_z w64 d) ≡ d
abs-pos d h = let k : d < 2 ^ hbits w64 = omega arith in rw (to_z_pos w64 d k) refl

minus_nat : (d : ℕ) → pos 0 -ℤ pos d ≡ neg_ℤ (pos d)
minus_nat d = let p = neg_parts (pos d) in same_in (pos 0 -ℤ pos d) (neg_ℤ (pos d)) (omega (arith, ints, p.0, p.1))

abs-neg : (d : ℕ) → unsigned_abs (neg_ℤ (pos d)) ≡ d
abs-neg zero = refl
abs-neg (suc d) = refl

fits_neg : (d : ℕ) → d ≤ 2 ^ 62 → FitsSigned w64 (neg_ℤ (pos d))
fits_neg zero h = record { sfits = omega arith }
fits_neg (suc d) h = record { sfits = omega arith }

pub abs-minus : (d : ℕ) → d ≤ 2 ^ 62 → unsigned_abs (to_z w64 (of_z w64 (pos 0 -ℤ to_z w64 d))) ≡ d
abs-minus d h =
    let k : d < 2 ^ hbits w64 = omega arith in
    let f = fits_neg d h in
    rw (to_z_pos w64 d k, minus_nat d) (rw (to_z-of_z w64 (neg_ℤ (pos d)) f) (abs-neg d))

-- ---- quotients

pub by_zero : (a b : Rat) → b.num ≡ pos 0 → quotient_of a b ≡ Err ZeroDivide
unfolding quotient_of
by_zero a b e = rw e refl

by_other : (a b : Rat) → (b.num ≡ pos 0 → ⊥) → quotient_of a b ≡ or_err fault.Overflow (checked (times a (inverse b)))
unfolding quotient_of divided
by_other a b some = rw (not_zero b.num some) refl

pub quotient_is : (a b i : Rat) (m : Result Rat Overflow) (r : Result Rat DivFault) → (b.num ≡ pos 0 → ⊥)
    → i ≡ inverse b → m ≡ checked (times a i) → r ≡ or_err fault.Overflow m → r ≡ quotient_of a b
quotient_is a b i m r some e f g = g ∙ rw (f, e) (sym (by_other a b some))

one-scaled : (n : ℤ) → n *ℤ pos (suc 0) ≡ n
one-scaled n = let s = scaled_parts n 1 in same_in (n *ℤ pos 1) n (omega (arith, s.0, s.1))

minus_one-scaled : (n : ℤ) → n *ℤ negsuc 0 ≡ neg_ℤ n
minus_one-scaled (pos zero) = refl
minus_one-scaled (pos (suc n)) = let e : suc n * suc 0 ≡ suc n = omega arith in ap (λ k. neg_ℤ (pos k)) e
minus_one-scaled (negsuc n) = let e : suc n * suc 0 ≡ suc n = omega arith in ap pos e

-- a whole number over one above 0, in lowest terms and refused out of range, is the quotient of the two
pub by_positive : (n : ℤ) (d : ℕ) (m : Result Rat Overflow) (r : Result Rat DivFault) → m ≡ checked (reduced n (suc d))
    → r ≡ or_err fault.Overflow m → r ≡ quotient_of (of_int n) (of_int (pos (suc d)))
unfolding times
by_positive n d m r f g = quotient_is (of_int n) (of_int (pos (suc d))) _ _ r (λ e. cc) refl refl (g ∙ rw f (rw (one-scaled n) (ap (λ k. or_err fault.Overflow (checked (reduced n k))) (omega arith))))

pub by_negative : (n : ℤ) (d : ℕ) (m : Result Rat Overflow) (r : Result Rat DivFault)
    → m ≡ checked (reduced (neg_ℤ n) (suc d)) → r ≡ or_err fault.Overflow m
    → r ≡ quotient_of (of_int n) (of_int (negsuc d))
unfolding times
by_negative n d m r f g = quotient_is (of_int n) (of_int (negsuc d)) _ _ r (λ e. cc) refl refl
    (g ∙ rw f (rw (minus_one-scaled n) (ap (λ k. or_err fault.Overflow (checked (reduced (neg_ℤ n) k))) (omega arith))))

pub by_negative_int : (n d : ℤ) (m : Result Rat Overflow) (r : Result Rat DivFault) → d <ℤ pos 0
    → m ≡ checked (reduced (neg_ℤ n) (unsigned_abs d)) → r ≡ or_err fault.Overflow m
    → r ≡ quotient_of (of_int n) (of_int d)
by_negative_int n (pos zero) m r h f g = absurd (omega (arith, ints))
by_negative_int n (pos (suc d)) m r h f g = absurd (omega (arith, ints))
by_negative_int n (negsuc d) m r h f g = by_negative n d m r f g

pub by_positive_int : (n d : ℤ) (m : Result Rat Overflow) (r : Result Rat DivFault) → pos 0 <ℤ d
    → m ≡ checked (reduced n (unsigned_abs d)) → r ≡ or_err fault.Overflow m → r ≡ quotient_of (of_int n) (of_int d)
by_positive_int n (pos zero) m r h f g = absurd (omega (arith, ints))
by_positive_int n (pos (suc d)) m r h f g = by_positive n d m r f g
by_positive_int n (negsuc d) m r h f g = absurd (omega (arith, ints))
