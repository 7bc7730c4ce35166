-- Rounding takes the nearest whole number, and of two the one farther from zero.
use Rattle.std.proofs.Common.{◌≡◌, ℕ, zero, suc, ◌+◌, ◌-◌, ◌*◌, ◌/◌, ◌%◌, ◌^◌, ◌<◌, ◌≤◌, ap, arith, ℤ, pos, negsuc, neg_ℤ, ◌⊎◌, inl, inr}
use Rattle.std.specs.Prelude.{unsigned_abs, ◌*ℤ◌, ◌-ℤ◌}
use Rattle.std.proofs.lemmas.Int.{ints}
use Rattle.std.proofs.lemmas.Bool.Decides.{leb_tells}
use Rattle.std.proofs.Math.Nat.{mul-le-mul_right}
use Rattle.cga_fraction.specs.Rat.{Rat, den}
use Rattle.cga_fraction.specs.Arithmetic.{with_sign}
use Rattle.cga_fraction.specs.Order.{positive_part, negative_part}
use Rattle.cga_fraction.specs.Texts.{round_of, distance, IsNearest}
use Rattle.cga_fraction.proofs.Lowest.{abs-with_sign}
use Rattle.cga_fraction.proofs.Order.{scaled_parts, neg_parts}

-- how far apart two naturals are
abbrev gap : ℕ → ℕ → ℕ
gap x y = (x - y) + (y - x)

abs_gap : (x y : ℤ)
    → unsigned_abs (x -ℤ y) ≡ gap (positive_part x + negative_part y) (positive_part y + negative_part x)
abs_gap x y = omega (arith, ints)

order : (m n : ℕ) → (m ≡ n) ⊎ ((suc m ≤ n) ⊎ (suc n ≤ m))
order m n = grind (arith, leb_tells m n, leb_tells n m)

-- the multiple of d that is nearest to n, and of two the greater
pub record IsGreatestNearest (n d m : ℕ) : Type 0 where
  pub below : 2 * (m * d) ≤ 2 * n + d
  pub above : 2 * n + d < 2 * (m * d) + 2 * d
  pub positive : 0 < d

nearest_at : (n d m k : ℕ) → IsGreatestNearest n d m → (k ≡ m) ⊎ ((suc k ≤ m) ⊎ (suc m ≤ k))
    → (gap n (m * d) ≤ gap n (k * d)) × (gap n (k * d) ≡ gap n (m * d) → k ≤ m)
nearest_at n d m k h (inl e) =
    let f : k * d ≡ m * d = ap (λ z. z * d) e in
    let b = h.below in (omega arith, λ w. omega arith)
nearest_at n d m k h (inr (inl l)) =
    let f : suc k * d ≤ m * d = mul-le-mul_right d l in
    let b = h.below in let a = h.above in (omega arith, λ w. omega arith)
nearest_at n d m k h (inr (inr l)) =
    let f : suc m * d ≤ k * d = mul-le-mul_right d l in
    let b = h.below in let a = h.above in let p = h.positive in (omega arith, λ w. absurd (omega arith))

nearest : (n d m k : ℕ) → IsGreatestNearest n d m
    → (gap n (m * d) ≤ gap n (k * d)) × (gap n (k * d) ≡ gap n (m * d) → k ≤ m)
nearest n d m k h = nearest_at n d m k h (order k m)

-- a multiple on the other side of zero is farther
other_side : (n d m k : ℕ) → IsGreatestNearest n d m
    → (gap n (m * d) ≤ n + suc k * d) × (n + suc k * d ≡ gap n (m * d) → ⊥)
other_side n d m k h =
    let f : 1 * d ≤ suc k * d = mul-le-mul_right d (omega arith) in
    let b = h.below in let a = h.above in let p = h.positive in (omega arith, λ w. omega arith)

halves : (n d : ℕ) → 0 < d → IsGreatestNearest n d ((2 * n + d) / (2 * d))
halves n d h =
    let q : 2 * d * ((2 * n + d) / (2 * d)) + (2 * n + d) % (2 * d) ≡ 2 * n + d = omega arith in
    let r : (2 * n + d) % (2 * d) < 2 * d = omega arith in
    record { below = omega arith; above = omega arith; positive = h }

-- ---- distances by their parts

distance-parts : (a : Rat) (places : ℕ) (z : ℤ)
    → distance a places z ≡ gap (positive_part a.num * 10 ^ places + negative_part z * den a)
    (positive_part z * den a + negative_part a.num * 10 ^ places)
distance-parts a places z =
    let x = scaled_parts a.num (10 ^ places) in
    let y = scaled_parts z (den a) in
    let g = abs_gap (a.num *ℤ pos (10 ^ places)) (z *ℤ pos (den a)) in
    omega (arith, g, x.0, x.1, y.0, y.1)

-- ---- by the sign of the number

-- what is rounded, of a magnitude over x + 1
abbrev half_up : ℕ → ℕ → ℕ → ℕ
half_up n x places = (2 * (n * 10 ^ places) + (x + 1)) / (2 * (x + 1))

at_positive : (n x places : ℕ) (w : ℤ)
    → (distance (record { num = pos n; above = x }) places (pos (half_up n x places)) ≤ distance
    (record { num = pos n; above = x }) places w)
    × (distance (record { num = pos n; above = x }) places w ≡ distance (record { num = pos n; above = x }) places
    (pos (half_up n x places)) → unsigned_abs w ≤ half_up n x places)
at_positive n x places (pos k) =
    let r = nearest (n * 10 ^ places) (x + 1) (half_up n x places) k (halves (n * 10 ^ places) (x + 1) (omega arith)) in
    let z = distance-parts (record { num = pos n; above = x }) places (pos (half_up n x places)) in
    let w = distance-parts (record { num = pos n; above = x }) places (pos k) in
    (omega (arith, r.0, z, w), λ e. r.1 (omega (arith, e, z, w)))
at_positive n x places (negsuc k) =
    let r = other_side (n * 10 ^ places) (x + 1) (half_up n x places) k (halves (n * 10 ^ places) (x + 1) (omega arith)) in
    let z = distance-parts (record { num = pos n; above = x }) places (pos (half_up n x places)) in
    let w = distance-parts (record { num = pos n; above = x }) places (negsuc k) in
    (omega (arith, r.0, z, w), λ e. absurd (r.1 (omega (arith, e, z, w))))

negative_distance : (n x places m : ℕ)
    → distance (record { num = negsuc n; above = x }) places (neg_ℤ (pos m)) ≡ gap (suc n * 10 ^ places) (m * (x + 1))
negative_distance n x places m =
    let p = neg_parts (pos m) in
    let u = ap (λ (k : ℕ). k * (x + 1)) p.0 in
    let v = ap (λ (k : ℕ). k * (x + 1)) p.1 in
    let z = distance-parts (record { num = negsuc n; above = x }) places (neg_ℤ (pos m)) in
    omega (arith, z, u, v)

at_negative : (n x places : ℕ) (w : ℤ)
    → (distance (record { num = negsuc n; above = x }) places (neg_ℤ (pos (half_up (suc n) x places))) ≤ distance
    (record { num = negsuc n; above = x }) places w)
    × (distance (record { num = negsuc n; above = x }) places w ≡ distance (record { num = negsuc n; above = x })
    places (neg_ℤ (pos (half_up (suc n) x places))) → unsigned_abs w ≤ half_up (suc n) x places)
at_negative n x places (pos zero) =
    let r = nearest (suc n * 10 ^ places) (x + 1) (half_up (suc n) x places) 0 (halves (suc n * 10 ^ places) (x + 1) (omega arith)) in
    let z = negative_distance n x places (half_up (suc n) x places) in
    let w = distance-parts (record { num = negsuc n; above = x }) places (pos 0) in
    (omega (arith, r.0, z, w), λ e. omega arith)
at_negative n x places (pos (suc k)) =
    let r = other_side (suc n * 10 ^ places) (x + 1) (half_up (suc n) x places) k (halves (suc n * 10 ^ places) (x + 1) (omega arith)) in
    let z = negative_distance n x places (half_up (suc n) x places) in
    let w = distance-parts (record { num = negsuc n; above = x }) places (pos (suc k)) in
    (omega (arith, r.0, z, w), λ e. absurd (r.1 (omega (arith, e, z, w))))
at_negative n x places (negsuc k) =
    let r = nearest (suc n * 10 ^ places) (x + 1) (half_up (suc n) x places) (suc k) (halves (suc n * 10 ^ places) (x + 1) (omega arith)) in
    let z = negative_distance n x places (half_up (suc n) x places) in
    let w = distance-parts (record { num = negsuc n; above = x }) places (negsuc k) in
    (omega (arith, r.0, z, w), λ e. r.1 (omega (arith, e, z, w)))

nearest_sign : (n : ℤ) (x places : ℕ)
    → IsNearest (record { num = n; above = x }) places (with_sign n (half_up (unsigned_abs n) x places))
nearest_sign (pos n) x places = record {
  nearest = λ w. (at_positive n x places w).0;
  farthest = λ w e. (at_positive n x places w).1 e;
}
nearest_sign (negsuc n) x places = record {
  nearest = λ w. (at_negative n x places w).0;
  farthest = λ w e. rw (abs-with_sign (negsuc n) (half_up (suc n) x places)) ((at_negative n x places w).1 e);
}

pub is_nearest : (a : Rat) (places : ℕ) → IsNearest a places (round_of a places)
unfolding round_of
is_nearest a places = nearest_sign a.num a.above places
