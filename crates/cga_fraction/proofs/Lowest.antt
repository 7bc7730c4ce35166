-- Numbers brought to lowest terms.
use Rattle.std.proofs.Common.{◌≡◌, ℕ, zero, suc, ◌*◌, ◌/◌, ◌-◌, ◌+◌, ◌<◌, ◌≤◌, ◌^◌, refl, sym, subst, ap, ◌∙◌, arith, false, ℤ, pos, negsuc, Ok, Err, Result, ◌⊎◌, w64, to_z}
use Rattle.std.specs.Prelude.{unsigned_abs}
use Rattle.std.proofs.Math.Nat.{div-mul_cancel, mul-div_cancel', mul-dvd-mul_right, one-mul, div-le_self, dvd_of_mul-dvd-mul_right, one-dvd}
use Rattle.std.specs.Int.{IsGcd, ◌∣◌}
use Rattle.std.proofs.lemmas.Bool.Decides.{leb_tells}
use Rattle.std.proofs.lemmas.Int.{to_z_pos}
use mir.Val.{hbits}
use Rattle.std.proofs.lemmas.Nat.Gcd.{same_from_IsGcd}
use Rattle.cga_fraction.specs.Gcd.{gcd}
use Rattle.cga_fraction.specs.Rat.{Rat, den, IsReduced}
use Rattle.cga_fraction.specs.Arithmetic.{with_sign, reduced}
use Rattle.cga_fraction.specs.Refusals.{checked, in_range}
use Rattle.cga_fraction.specs.declared.overflow.Overflow.{Overflow}
use Rattle.cga_fraction.proofs.Gcds.{gcd-IsGcd, gcd-one, gcd_positive}

-- a number that is given the sign of another has its own size
pub abs-with_sign : (n : ℤ) (m : ℕ) → unsigned_abs (with_sign n m) ≡ m
abs-with_sign (pos n) m = refl
abs-with_sign (negsuc n) zero = refl
abs-with_sign (negsuc n) (suc m) = refl

-- divided by their greatest common divisor, two numbers have none above 1
coprime : (a d g : ℕ) → IsGcd a d g → 0 < g → IsGcd (a / g) (d / g) 1
coprime a d g is some = (
  one-dvd _,
  one-dvd _,
  λ k p q.
      let whole : k * g ∣ a = subst (λ n. k * g ∣ n) (div-mul_cancel g is.0) (mul-dvd-mul_right _ p g) in
      let below : k * g ∣ d = subst (λ n. k * g ∣ n) (div-mul_cancel g is.1) (mul-dvd-mul_right _ q g) in
      let both : k * g ∣ 1 * g = rw one-mul (is.2 (k * g) whole below) in dvd_of_mul-dvd-mul_right _ some both,
)

-- where a number is above 0, so is its quotient by each of its divisors
pub quotient_positive : (d g : ℕ) → g ∣ d → 0 < d → 0 < d / g
quotient_positive d g divides h = let e = mul-div_cancel' g divides in grind (arith, e)

-- the denominator of a number in lowest terms
pub den-reduced : (n : ℤ) (d : ℕ) → 0 < d → den (reduced n d) ≡ d / gcd (unsigned_abs n) d
unfolding reduced
den-reduced n d h =
    let p : 0 < d / gcd (unsigned_abs n) d = quotient_positive d _ (gcd-IsGcd (unsigned_abs n) d).1 h in omega arith

-- where the second of two numbers is above 0, both divided by their greatest common divisor have 1 as theirs
pub lowest : (a d : ℕ) → 0 < d → gcd (a / gcd a d) (d / gcd a d) ≡ 1
lowest a d h = same_from_IsGcd _ _ _ _ (gcd-IsGcd _ _) (coprime a d (gcd a d) (gcd-IsGcd a d) (gcd_positive a d h))

-- the result of `reduced`, by the divisor that was found
pub reduced-parts : (n : ℤ) (d g : ℕ) → g ≡ gcd (unsigned_abs n) d
    → reduced n d ≡ record { num = with_sign n (unsigned_abs n / g); above = d / g - 1 }
unfolding reduced
reduced-parts n d g e = rw e refl

-- where neither numerator nor denominator is above 2 to the 62, a result isn't refused
pub checked-in : (a : Rat) → unsigned_abs a.num ≤ 2 ^ 62 → den a ≤ 2 ^ 62 → checked a ≡ Ok a
unfolding checked
checked-in a p q = grind (arith, leb_tells (unsigned_abs a.num) (2 ^ 62), leb_tells (den a) (2 ^ 62))

checked-out : (a : Rat) → in_range a ≡ false → checked a ≡ Err (record {})
unfolding checked
checked-out a e = rw e refl

-- ---- the parts of a number in lowest terms, by quotients that were formed

-- q and e are the size of n and the number d, each over the greatest common divisor of both
pub record AreQuotients (n : ℤ) (d q e : ℕ) : Type 0 where
  pub numerator : q ≡ unsigned_abs n / gcd (unsigned_abs n) d
  pub denominator : e ≡ d / gcd (unsigned_abs n) d

pub quotients : (n : ℤ) (d u v g q e : ℕ) → u ≡ unsigned_abs n → v ≡ unsigned_abs n → g ≡ gcd u d → q ≡ v / g
    → e ≡ d / g → AreQuotients n d q e
quotients n d u v g q e eu ev eg eq ee =
    let same : g ≡ gcd (unsigned_abs n) d = eg ∙ ap (λ k. gcd k d) eu in
    record {
      numerator = rw (eq, ev, same) refl;
      denominator = rw (ee, same) refl;
    }

denominator_positive : (n : ℤ) (d q e : ℕ) → AreQuotients n d q e → 0 < d → 0 < e
denominator_positive n d q e is h = rw is.denominator (quotient_positive d _ (gcd-IsGcd (unsigned_abs n) d).1 h)

-- both parts are within the limit
pub formed : (n : ℤ) (d q e : ℕ) (z : ℤ) → AreQuotients n d q e → z ≡ with_sign n q → q ≤ 2 ^ 62 → e ≤ 2 ^ 62 → 0 < d
    → ◌≡◌ {A = Result Rat Overflow} (Ok (record { num = z; above = e - 1 })) (checked (reduced n d))
formed n d q e z is ez a b h =
    let p : 0 < e = denominator_positive n d q e is h in
    let k : e - 1 + 1 ≤ 2 ^ 62 = omega arith in
    let m : unsigned_abs z ≤ 2 ^ 62 = rw (ez, abs-with_sign) a in
    let same : ◌≡◌ {A = Rat} (record { num = z; above = e - 1 }) (reduced n d) = rw (ez, is.numerator, is.denominator) (sym (reduced-parts n d _ refl)) in
    rw (← same) (sym (checked-in (record { num = z; above = e - 1 }) m k))

pub formed_is : (n : ℤ) (d q e : ℕ) (z : ℤ) → AreQuotients n d q e → z ≡ with_sign n q → q ≤ 2 ^ 62 → e ≤ 2 ^ 62
    → 0 < d → IsReduced z e
formed_is n d q e z is ez a b h = record {
  positive = denominator_positive n d q e is h;
  lowest = rw (ez, abs-with_sign, is.numerator, is.denominator) (lowest (unsigned_abs n) d h);
  numerator = rw (ez, abs-with_sign) a;
  denominator = b;
}

-- one part is above it
pub formed_beyond : (n : ℤ) (d q e : ℕ) → AreQuotients n d q e → ((2 ^ 62 < q) ⊎ (2 ^ 62 < e)) → 0 < d
    → ◌≡◌ {A = Result Rat Overflow} (Err (record {})) (checked (reduced n d))
formed_beyond n d q e is above h =
    let g = gcd (unsigned_abs n) d in
    let beyond : (2 ^ 62 < unsigned_abs n / g) ⊎ (2 ^ 62 < d / g) = rw (is.numerator, is.denominator) at above in
    let p : 0 < d / g = quotient_positive d _ (gcd-IsGcd (unsigned_abs n) d).1 h in
    let k : d / g - 1 + 1 ≡ d / g = omega arith in
    let out : in_range (record { num = with_sign n (unsigned_abs n / g); above = d / g - 1 }) ≡ false = rw
    (abs-with_sign, k) (grind (arith, leb_tells (unsigned_abs n / g) (2 ^ 62), leb_tells (d / g) (2 ^ 62))) in
    rw (reduced-parts n d _ refl) (sym (checked-out _ out))

pub whole_is_reduced : (n : ℤ) → unsigned_abs n ≤ 2 ^ 62 → IsReduced n 1
whole_is_reduced n h = record {
  positive = omega arith;
  lowest = gcd-one (unsigned_abs n);
  numerator = h;
  denominator = omega arith;
}

pub zero_is_reduced : IsReduced (pos 0) 1
zero_is_reduced = whole_is_reduced (pos 0) (omega arith)

-- ---- parts of 64 bits

pub narrow_is : (n d g : ℕ) → g ≡ gcd n d → n ≤ 2 ^ 62 → d ≤ 2 ^ 62 → 0 < d → IsReduced (to_z w64 (n / g)) (d / g)
narrow_is n d g e a b h =
    let k : n / g ≤ n = div-le_self n g in
    let j : d / g ≤ d = div-le_self d g in
    let f : n / g < 2 ^ hbits w64 = omega arith in
    rw (to_z_pos w64 (n / g) f) (formed_is (pos n) d (n / g) (d / g) (pos (n / g)) (quotients (pos n) d n n g _ _ refl refl e refl refl) refl (omega arith) (omega arith) h)

pub narrow : (n d g : ℕ) → g ≡ gcd n d → n ≤ 2 ^ 62
    → ◌≡◌ {A = Rat} (record { num = to_z w64 (n / g); above = d / g - 1 }) (reduced (pos n) d)
narrow n d g e a =
    let k : n / g ≤ n = div-le_self n g in
    let f : n / g < 2 ^ hbits w64 = omega arith in
    rw (to_z_pos w64 (n / g) f) (sym (reduced-parts (pos n) d g e))
