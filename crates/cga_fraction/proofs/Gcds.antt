-- The greatest common divisor.
use Rattle.std.proofs.Common.{◌≡◌, ℕ, zero, suc, ◌*◌, ◌/◌, ◌%◌, ◌+◌, ◌<◌, refl, sym, ◌∙◌, ap, subst, arith}
use Rattle.std.proofs.Math.Nat.{mul-div-mul_left, div-add-mod, dvd-mul_left, mul_comm, mul-one, pos_of_dvd_of_pos}
use Rattle.std.proofs.lemmas.Nat.Gcd.{IsGcd-from_zero, IsGcd-from_mod, same_from_IsGcd, dvd_antisymm}
use Rattle.std.specs.Int.{IsGcd, ◌∣◌}
use Rattle.cga_fraction.specs.Gcd.{gcd, gcd_within}

gcd_within-IsGcd : (steps a b : ℕ) → b < steps → IsGcd a b (gcd_within steps a b)
unfolding gcd_within
gcd_within-IsGcd zero a b h = absurd (omega arith)
gcd_within-IsGcd (suc steps) a zero h = IsGcd-from_zero a 0 refl
gcd_within-IsGcd (suc steps) a (suc b) h = IsGcd-from_mod a (suc b) _ (gcd_within-IsGcd steps (suc b) (a % suc b) (omega arith))

-- what Euclid's algorithm gives of two numbers is their greatest common divisor
pub gcd-IsGcd : (a b : ℕ) → IsGcd a b (gcd a b)
unfolding gcd
gcd-IsGcd a b = gcd_within-IsGcd (suc b) a b (omega arith)

-- Euclid's step, also by 0
pub gcd-step : (a b : ℕ) → gcd a b ≡ gcd b (a % b)
gcd-step a b = same_from_IsGcd a b _ _ (gcd-IsGcd a b) (IsGcd-from_mod a b _ (gcd-IsGcd b (a % b)))

pub gcd-zero : (a b : ℕ) → b ≡ 0 → gcd a b ≡ a
gcd-zero a b e = same_from_IsGcd a b _ _ (gcd-IsGcd a b) (IsGcd-from_zero a b e)

-- the greatest common divisor of a number and 1 is 1
pub gcd-one : (a : ℕ) → gcd a 1 ≡ 1
gcd-one a = let e : a % 1 ≡ 0 = omega arith in gcd-step a 1 ∙ gcd-zero 1 (a % 1) e

-- the divisor of a number above 0 is above 0
pub gcd_positive : (a d : ℕ) → 0 < d → 0 < gcd a d
gcd_positive a d h = pos_of_dvd_of_pos (gcd-IsGcd a d).1 h

mul_mod : (k a b : ℕ) → k * a % (k * b) ≡ k * (a % b)
mul_mod zero a b = omega arith
mul_mod (suc k) a b =
    let e : suc k * a / (suc k * b) ≡ a / b = mul-div-mul_left a b (omega arith) in
    let x : suc k * b * (suc k * a / (suc k * b)) + suc k * a % (suc k * b) ≡ suc k * a = div-add-mod (suc k * a) (suc k * b) in
    let y : b * (a / b) + a % b ≡ a = div-add-mod a b in
    let z : suc k * (b * (a / b) + a % b) ≡ suc k * a = ap (λ w. suc k * w) y in
    let x' : suc k * b * (a / b) + suc k * a % (suc k * b) ≡ suc k * a = subst (λ w. suc k * b * w + suc k * a % (suc k * b) ≡ suc k * a) e x in
    omega arith

-- a multiple of two numbers
gcd_scaled : (steps a b k : ℕ) → b < steps → IsGcd (k * a) (k * b) (k * gcd_within steps a b)
unfolding gcd_within
gcd_scaled zero a b k h = absurd (omega arith)
gcd_scaled (suc steps) a zero k h = IsGcd-from_zero (k * a) (k * 0) (omega arith)
gcd_scaled (suc steps) a (suc b) k h =
    let r = gcd_scaled steps (suc b) (a % suc b) k (omega arith) in
    IsGcd-from_mod (k * a) (k * suc b) _ (subst (λ w. IsGcd (k * suc b) w (k * gcd_within steps (suc b) (a % suc b))) (sym (mul_mod k a (suc b))) r)

-- b divides d where it divides a * d and has no factor with a
over : (a b c d : ℕ) → gcd a b ≡ 1 → a * d ≡ c * b → b ∣ d
unfolding gcd
over a b c d g e =
    let w : IsGcd (d * a) (d * b) (d * gcd_within (suc b) a b) = gcd_scaled (suc b) a b d (omega arith) in
    let v : IsGcd (d * a) (d * b) (d * 1) = subst (λ k. IsGcd (d * a) (d * b) (d * k)) g w in
    let x : b ∣ d * a = subst (λ k. b ∣ k) (sym e ∙ mul_comm a d) (dvd-mul_left b c) in
    let y : b ∣ d * b = dvd-mul_left b d in
    subst (λ k. b ∣ k) (mul-one d) (v.2 b x y)

-- two pairs in lowest terms with equal cross products have one denominator
pub same_lowest : (a b c d : ℕ) → gcd a b ≡ 1 → gcd c d ≡ 1 → a * d ≡ c * b → b ≡ d
same_lowest a b c d g h e =
    let b_of : b ∣ d = over a b c d g e in
    let d_of : d ∣ b = over c d a b h (sym e) in
    dvd_antisymm b_of d_of
