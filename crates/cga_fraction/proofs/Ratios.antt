-- Arithmetic of rational numbers that aren't below zero, each said to be a ratio of naturals.
use Rattle.std.proofs.Common.{◌≡◌, ℕ, zero, suc, ◌+◌, ◌*◌, ◌/◌, ◌-◌, ◌≤◌, ◌<◌, arith, refl, sym, ap, subst, ℤ, pos, negsuc}
use Rattle.std.specs.Prelude.{IsTrue, ◌-ℤ◌}
use Rattle.std.proofs.lemmas.Int.{ints}
use Rattle.std.proofs.Math.Nat.{div-mul_cancel, mul-pos, mul-le-mul_right, le_of_mul-le-mul_right, eq_of_mul-eq-mul_right}
use Rattle.cga_fraction.specs.Gcd.{gcd}
use Rattle.cga_fraction.specs.Rat.{Rat, den, zero_rat, of_int}
use Rattle.cga_fraction.specs.Arithmetic.{reduced, plus, minus, times, divided, inverse, inverse_of}
use Rattle.cga_fraction.specs.Order.{positive_part, negative_part, rat_le}
use Rattle.cga_fraction.proofs.Gcds.{gcd-IsGcd}
use Rattle.cga_fraction.proofs.Naturals.{above_zero, cross_products}
use Rattle.cga_fraction.proofs.Order.{le_test, le_fact}

-- q is n over d
pub record IsRatio (q : Rat) (n d : ℕ) : Type 0 where
  pub positive : 0 < d
  pub top : ℕ
  pub is : q.num ≡ pos top
  pub same : top * d ≡ n * den q

pub reduced_ratio : (n d : ℕ) → 0 < d → IsRatio (reduced (pos n) d) n d
unfolding reduced
reduced_ratio n d h =
    let g = gcd n d in
    let is = gcd-IsGcd n d in
    let en : n / gcd n d * gcd n d ≡ n = div-mul_cancel (gcd n d) is.0 in
    let ed : d / gcd n d * gcd n d ≡ d = div-mul_cancel (gcd n d) is.1 in
    let p : 0 < d / gcd n d = above_zero (d / gcd n d) (gcd n d) d ed h in
    let k : d / gcd n d - 1 + 1 ≡ d / gcd n d = omega arith in
    record { positive = h; top = n / gcd n d; is = refl; same = rw k (cross_products n d (gcd n d) (n / gcd n d) (d / gcd n d) en ed) }

-- the same ratio by other numbers
swap_ends : (t d n q e m : ℕ) → 0 < d → t * d ≡ n * q → n * e ≡ m * d → t * e ≡ m * q
swap_ends t d n q e m p h k =
    let a : t * d * e ≡ n * q * e = ap (λ x. x * e) h in
    let b : n * e * q ≡ m * d * q = ap (λ x. x * q) k in
    let c : t * e * d ≡ m * q * d = omega arith in
    eq_of_mul-eq-mul_right d p (t * e) (m * q) c

-- where a number is a ratio, it is each one of equal cross products whose denominator is above 0
pub like : (q : Rat) (n d m e : ℕ) → IsRatio q n d → n * e ≡ m * d → 0 < e → IsRatio q m e
like q n d m e r k p = record { positive = p; top = r.top; is = r.is; same = swap_ends r.top d n (den q) e m r.positive r.same k }

sums : (s t a b d e n m : ℕ) → s * d ≡ n * a → t * e ≡ m * b → (s * b + t * a) * (d * e) ≡ (n * e + m * d) * (a * b)
sums s t a b d e n m h k =
    let x : s * d * (b * e) ≡ n * a * (b * e) = ap (λ x. x * (b * e)) h in
    let y : t * e * (a * d) ≡ m * b * (a * d) = ap (λ x. x * (a * d)) k in
    omega arith

-- the sum of two ratios is that of their cross products over the product of the denominators
pub plus_ratio : (a b : Rat) (n d m e : ℕ) → IsRatio a n d → IsRatio b m e → IsRatio (plus a b) (n * e + m * d) (d * e)
unfolding plus
plus_ratio a b n d m e r s =
    let w = reduced_ratio (r.top * den b + s.top * den a) (den a * den b) (mul-pos {m = den a} {n = den b} (omega arith) (omega arith)) in
    let v = like _ _ _ (n * e + m * d) (d * e) w (sums r.top s.top (den a) (den b) d e n m r.same s.same) (mul-pos r.positive s.positive) in
    rw (r.is, s.is) v

products : (s t a b d e n m : ℕ) → s * d ≡ n * a → t * e ≡ m * b → (s * t) * (d * e) ≡ (n * m) * (a * b)
products s t a b d e n m h k =
    let x : s * d * (t * e) ≡ n * a * (t * e) = ap (λ x. x * (t * e)) h in
    let y : n * a * (t * e) ≡ n * a * (m * b) = ap (λ x. n * a * x) k in
    omega arith

-- the product of two ratios is that of the numerators over that of the denominators
pub times_ratio : (a b : Rat) (n d m e : ℕ) → IsRatio a n d → IsRatio b m e → IsRatio (times a b) (n * m) (d * e)
unfolding times
times_ratio a b n d m e r s =
    let w = reduced_ratio (r.top * s.top) (den a * den b) (mul-pos {m = den a} {n = den b} (omega arith) (omega arith)) in
    let v = like _ _ _ (n * m) (d * e) w (products r.top s.top (den a) (den b) d e n m r.same s.same) (mul-pos r.positive s.positive) in
    rw (r.is, s.is) v

inverse_parts : (z : ℤ) (t x m e : ℕ) → z ≡ pos t → t * e ≡ m * (x + 1) → 0 < m → IsRatio (inverse_of z x) e m
inverse_parts (pos zero) t x m e i s h = absurd (let k : t ≡ 0 = cc in let l : t * e ≡ 0 * e = ap (λ w. w * e) k in let p : 0 < m * (x + 1) = mul-pos h (omega arith) in omega arith)
inverse_parts (pos (suc n)) t x m e i s h =
    let k : t ≡ suc n = cc in
    let l : t * e ≡ suc n * e = ap (λ w. w * e) k in
    record { positive = h; top = suc x; is = refl; same = omega arith }
inverse_parts (negsuc n) t x m e i s h = absurd (cc)

pub inverse_ratio : (b : Rat) (m e : ℕ) → IsRatio b m e → 0 < m → IsRatio (inverse b) e m
inverse_ratio b m e s h = inverse_parts b.num s.top b.above m e s.is s.same h

-- where the second of two ratios is above 0, their quotient is the ratio of their cross products
pub divided_ratio : (a b : Rat) (n d m e : ℕ) → IsRatio a n d → IsRatio b m e → 0 < m
    → IsRatio (divided a b) (n * e) (d * m)
unfolding divided
divided_ratio a b n d m e r s h = times_ratio a (inverse b) n d e m r (inverse_ratio b m e s h)

-- two ratios of one number
pub both : (q : Rat) (n d m e : ℕ) → IsRatio q n d → IsRatio q m e → n * e ≡ m * d
both q n d m e r s =
    let t : r.top ≡ s.top = cc in
    let x : r.top * d * e ≡ n * den q * e = ap (λ x. x * e) r.same in
    let y : s.top * e * d ≡ m * den q * d = ap (λ x. x * d) s.same in
    let z : r.top * d * e ≡ s.top * d * e = ap (λ x. x * d * e) t in
    let w : n * e * den q ≡ m * d * den q = omega arith in
    eq_of_mul-eq-mul_right (den q) (omega arith) (n * e) (m * d) w

-- order by ratios
orders : (s t a b d e n m : ℕ) → 0 < d → 0 < e → s * d ≡ n * a → t * e ≡ m * b → n * e ≤ m * d → s * b ≤ t * a
orders s t a b d e n m p q h k l =
    let x : s * d * (b * e) ≡ n * a * (b * e) = ap (λ x. x * (b * e)) h in
    let y : t * e * (a * d) ≡ m * b * (a * d) = ap (λ x. x * (a * d)) k in
    let z : n * e * (a * b) ≤ m * d * (a * b) = mul-le-mul_right (a * b) l in
    let w : s * b * (d * e) ≤ t * a * (d * e) = omega arith in
    le_of_mul-le-mul_right w (mul-pos p q)

-- where the cross products of two ratios are in order, the first is at most the second
pub le_ratio : (a b : Rat) (n d m e : ℕ) → IsRatio a n d → IsRatio b m e → n * e ≤ m * d → IsTrue (rat_le a b)
le_ratio a b n d m e r s l =
    let w = orders r.top s.top (den a) (den b) d e n m r.positive s.positive r.same s.same l in
    le_test a b (rw (r.is, s.is) (omega arith))

back : (s t a b d e n m : ℕ) → 0 < a → 0 < b → s * d ≡ n * a → t * e ≡ m * b → s * b ≤ t * a → n * e ≤ m * d
back s t a b d e n m p q h k l =
    let x : s * d * (b * e) ≡ n * a * (b * e) = ap (λ x. x * (b * e)) h in
    let y : t * e * (a * d) ≡ m * b * (a * d) = ap (λ x. x * (a * d)) k in
    let z : s * b * (d * e) ≤ t * a * (d * e) = mul-le-mul_right (d * e) l in
    let w : n * e * (a * b) ≤ m * d * (a * b) = omega arith in
    le_of_mul-le-mul_right w (mul-pos p q)

-- what is left of a where b is at most a
differences : (s t a b d e n m x : ℕ) → s * d ≡ n * a → t * e ≡ m * b → s * b ≡ x + t * a
    → x * (d * e) + m * d * (a * b) ≡ n * e * (a * b)
differences s t a b d e n m x h k l =
    let u : s * d * (b * e) ≡ n * a * (b * e) = ap (λ x. x * (b * e)) h in
    let v : t * e * (a * d) ≡ m * b * (a * d) = ap (λ x. x * (a * d)) k in
    let w : s * b * (d * e) ≡ (x + t * a) * (d * e) = ap (λ x. x * (d * e)) l in
    omega arith

pub minus_top : (s t : ℕ) → t ≤ s → pos s -ℤ pos t ≡ pos (s - t)
minus_top s t h = omega (arith, ints)

le_tops : (b a : Rat) (t s : ℕ) → b.num ≡ pos t → a.num ≡ pos s
    → positive_part b.num * den a + negative_part a.num * den b ≤ positive_part a.num * den b + negative_part b.num *
    den a
    → t * den a ≤ s * den b
le_tops b a t s e f h =
    let h' = subst (λ z. positive_part z * den a + negative_part a.num * den b ≤ positive_part a.num * den b + negative_part z * den a) e h in
    let h'' = subst (λ z. t * den a + negative_part z * den b ≤ positive_part z * den b + 0 * den a) f h' in
    omega arith

-- where the second of two ratios is at most the first, their difference is that of the cross products over both
pub minus_ratio : (a b : Rat) (n d m e : ℕ) → IsRatio a n d → IsRatio b m e → IsTrue (rat_le b a)
    → (k : ℕ) × (k + m * d ≡ n * e) × IsRatio (minus a b) k (d * e)
unfolding minus
minus_ratio a b n d m e r s l =
    let f = le_fact b a l in
    let f' : s.top * den a ≤ r.top * den b = le_tops b a s.top r.top s.is r.is f in
    let g : m * d ≤ n * e = back s.top r.top (den b) (den a) e d m n (omega arith) (omega arith) s.same r.same f' in
    let x : r.top * den b - s.top * den a + s.top * den a ≡ r.top * den b = omega arith in
    let y = differences r.top s.top (den a) (den b) d e n m (r.top * den b - s.top * den a) r.same s.same (sym x) in
    let k : n * e - m * d + m * d ≡ n * e = omega arith in
    let k' : (n * e - m * d + m * d) * (den a * den b) ≡ n * e * (den a * den b) = ap (λ w. w * (den a * den b)) k in
    let w = reduced_ratio (r.top * den b - s.top * den a) (den a * den b) (mul-pos {m = den a} {n = den b} (omega arith) (omega arith)) in
    let v = like _ _ _ (n * e - m * d) (d * e) w (omega arith) (mul-pos r.positive s.positive) in
    (n * e - m * d, k, rw (r.is, s.is) (rw (minus_top (r.top * den b) (s.top * den a) f') v))

-- 0 is the ratio of 0 to 1
pub zero_ratio : IsRatio zero_rat 0 1
zero_ratio = record { positive = omega arith; top = 0; is = refl; same = refl }

-- a whole number that isn't below 0 is its ratio to 1
pub whole_ratio : (n : ℕ) → IsRatio (of_int (pos n)) n 1
whole_ratio n = record { positive = omega arith; top = n; is = refl; same = omega arith }

top_of : (q : Rat) (z : ℤ) → q.num ≡ z → IsTrue (rat_le zero_rat q) → (t : ℕ) × (q.num ≡ pos t)
top_of q (pos t) e h = (t, e)
top_of q (negsuc t) e h =
    let f = le_fact zero_rat q h in
    let g = subst (λ w. 0 * (q.above + 1) + negative_part w * 1 ≤ positive_part w * 1 + 0 * (q.above + 1)) e f in
    absurd (omega arith)

-- a number that isn't below 0 is the ratio that it shows
pub shown_ratio : (q : Rat) → IsTrue (rat_le zero_rat q) → (n : ℕ) × IsRatio q n (den q)
shown_ratio q h = let t = top_of q q.num refl h in (t.0, record { positive = omega arith; top = t.0; is = t.1; same = refl })

-- where the first of two ratios is at most the second, their cross products are in that order
pub ratio_le : (a b : Rat) (n d m e : ℕ) → IsRatio a n d → IsRatio b m e → IsTrue (rat_le a b) → n * e ≤ m * d
ratio_le a b n d m e r s l = back r.top s.top (den a) (den b) d e n m (omega arith) (omega arith) r.same s.same (le_tops a b r.top s.top r.is s.is (le_fact a b l))
