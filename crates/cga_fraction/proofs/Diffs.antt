-- Arithmetic of rational numbers, each said to be a difference of naturals over a natural. An identity of
-- numbers becomes one of naturals, which `omega arith` proves by multiplying out.
use Rattle.std.proofs.Common.{◌≡◌, ℕ, suc, ◌+◌, ◌*◌, ◌/◌, ◌-◌, ◌≤◌, ◌<◌, arith, refl, sym, ap, ℤ, pos, negsuc}
use Rattle.std.specs.Prelude.{IsTrue, ◌-ℤ◌, ◌+ℤ◌, ◌*ℤ◌}
use Rattle.std.proofs.Math.Nat.{div-mul_cancel, mul-pos, mul-le-mul_right, le_of_mul-le-mul_right, eq_of_mul-eq-mul_right}
use Rattle.std.proofs.lemmas.Int.{ints}
use Rattle.cga_fraction.specs.Gcd.{gcd}
use Rattle.cga_fraction.specs.Rat.{Rat, den, zero_rat, of_int}
use Rattle.cga_fraction.specs.Arithmetic.{reduced, plus, minus, times, negated}
use Rattle.cga_fraction.specs.Order.{positive_part, negative_part, rat_le, rat_lt}
use Rattle.cga_fraction.proofs.Gcds.{gcd-IsGcd}
use Rattle.cga_fraction.proofs.Naturals.{above_zero, cross_products}
use Rattle.cga_fraction.proofs.Order.{le_test, le_fact, scaled_parts, neg_parts, not_le_lt, lt_not_le}

-- q is (u - v) / d
pub record IsDiff (q : Rat) (u v d : ℕ) : Type 0 where
  pub positive : 0 < d
  pub same : positive_part q.num * d + v * den q ≡ u * den q + negative_part q.num * d

pub reduced_diff : (n : ℤ) (d : ℕ) → 0 < d → IsDiff (reduced n d) (positive_part n) (negative_part n) d
unfolding reduced
reduced_diff (pos n) d h =
    let is = gcd-IsGcd n d in
    let en : n / gcd n d * gcd n d ≡ n = div-mul_cancel (gcd n d) is.0 in
    let ed : d / gcd n d * gcd n d ≡ d = div-mul_cancel (gcd n d) is.1 in
    let p : 0 < d / gcd n d = above_zero (d / gcd n d) (gcd n d) d ed h in
    let k : d / gcd n d - 1 + 1 ≡ d / gcd n d = omega arith in
    let x : n / gcd n d * d ≡ n * (d / gcd n d) = cross_products n d (gcd n d) (n / gcd n d) (d / gcd n d) en ed in
    record { positive = h; same = rw k (omega arith) }
reduced_diff (negsuc n) d h =
    let is = gcd-IsGcd (suc n) d in
    let en : suc n / gcd (suc n) d * gcd (suc n) d ≡ suc n = div-mul_cancel (gcd (suc n) d) is.0 in
    let ed : d / gcd (suc n) d * gcd (suc n) d ≡ d = div-mul_cancel (gcd (suc n) d) is.1 in
    let p : 0 < d / gcd (suc n) d = above_zero (d / gcd (suc n) d) (gcd (suc n) d) d ed h in
    let k : d / gcd (suc n) d - 1 + 1 ≡ d / gcd (suc n) d = omega arith in
    let x : suc n / gcd (suc n) d * d ≡ suc n * (d / gcd (suc n) d) = cross_products (suc n) d (gcd (suc n) d) (suc n / gcd (suc n) d) (d / gcd (suc n) d) en ed in
    let m = neg_parts (pos (suc n / gcd (suc n) d)) in
    record { positive = h; same = rw (k, m.0, m.1) (omega arith) }

-- where a first difference over a natural equals a second, and that a third, the first equals the third
pub cross_trans : (p m q u v d w x e : ℕ) → 0 < d → p * d + v * q ≡ u * q + m * d → u * e + x * d ≡ w * d + v * e
    → p * e + x * q ≡ w * q + m * e
cross_trans p m q u v d w x e h s k =
    let a : (p * d + v * q) * e ≡ (u * q + m * d) * e = ap (λ z. z * e) s in
    let b : (u * e + x * d) * q ≡ (w * d + v * e) * q = ap (λ z. z * q) k in
    let c : (p * e + x * q) * d ≡ (w * q + m * e) * d = omega arith in
    eq_of_mul-eq-mul_right d h (p * e + x * q) (w * q + m * e) c

-- the same number by other naturals
pub like : (q : Rat) (u v d w x e : ℕ) → IsDiff q u v d → u * e + x * d ≡ w * d + v * e → 0 < e → IsDiff q w x e
like q u v d w x e r k h = record { positive = h; same = cross_trans (positive_part q.num) (negative_part q.num) (den q) u v d w x e r.positive r.same k }

-- every number is the difference that it shows
pub itself : (q : Rat) → IsDiff q (positive_part q.num) (negative_part q.num) (den q)
itself q = record { positive = omega arith; same = omega arith }

pub sum_parts : (x y : ℤ)
    → positive_part (x +ℤ y) + negative_part x + negative_part y ≡ negative_part (x +ℤ y) + positive_part x +
    positive_part y
sum_parts x y = omega (arith, ints)

pub sub_parts : (x y : ℤ)
    → positive_part (x -ℤ y) + negative_part x + positive_part y ≡ negative_part (x -ℤ y) + positive_part x +
    negative_part y
sub_parts x y = omega (arith, ints)

plus_parts : (a b : Rat) (p m : ℕ) → p ≡ positive_part (a.num *ℤ pos (den b) +ℤ b.num *ℤ pos (den a))
    → m ≡ negative_part (a.num *ℤ pos (den b) +ℤ b.num *ℤ pos (den a))
    → p + (negative_part a.num * den b + negative_part b.num * den a) ≡ m +
    (positive_part a.num * den b + positive_part b.num * den a)
plus_parts a b p m e f =
    let s = sum_parts (a.num *ℤ pos (den b)) (b.num *ℤ pos (den a)) in
    let x = scaled_parts a.num (den b) in
    let y = scaled_parts b.num (den a) in
    omega (arith, e, f, s, x.0, x.1, y.0, y.1)

-- the sum, of two numbers as they show themselves
pub plus_diff : (a b : Rat)
    → IsDiff (plus a b) (positive_part a.num * den b + positive_part b.num * den a)
    (negative_part a.num * den b + negative_part b.num * den a) (den a * den b)
unfolding plus
plus_diff a b =
    let n = a.num *ℤ pos (den b) +ℤ b.num *ℤ pos (den a) in
    let h : 0 < den a * den b = mul-pos {m = den a} {n = den b} (omega arith) (omega arith) in
    let r = reduced_diff (a.num *ℤ pos (den b) +ℤ b.num *ℤ pos (den a)) (den a * den b) h in
    let k = plus_parts a b _ _ refl refl in
    let k' = ap (λ z. z * (den a * den b)) k in
    like (plus a b) _ _ _ (positive_part a.num * den b + positive_part b.num * den a) (negative_part a.num * den b + negative_part b.num * den a) (den a * den b) r (omega (arith, k')) h

-- up minus down, over a natural
record Difference : Type 0 where
  up : ℕ
  down : ℕ
  over : ℕ

-- a number as it shows itself
shown : Rat → Difference
shown q = record { up = positive_part q.num; down = negative_part q.num; over = den q }

-- two differences are in the order of two others that are the same numbers
orders : (a b c d : Difference) → 0 < c.over → 0 < d.over
    → a.up * c.over + c.down * a.over ≡ c.up * a.over + a.down * c.over
    → b.up * d.over + d.down * b.over ≡ d.up * b.over + b.down * d.over
    → c.up * d.over + d.down * c.over ≤ d.up * c.over + c.down * d.over
    → a.up * b.over + b.down * a.over ≤ b.up * a.over + a.down * b.over
orders a b c d h k f g l =
    let x : (a.up * c.over + c.down * a.over) * (b.over * d.over) ≡ (c.up * a.over + a.down * c.over) * (b.over * d.over) = ap (λ z. z * (b.over * d.over)) f in
    let y : (b.up * d.over + d.down * b.over) * (a.over * c.over) ≡ (d.up * b.over + b.down * d.over) * (a.over * c.over) = ap (λ z. z * (a.over * c.over)) g in
    let w : (c.up * d.over + d.down * c.over) * (a.over * b.over) ≤ (d.up * c.over + c.down * d.over) * (a.over * b.over) = mul-le-mul_right (a.over * b.over) l in
    let z : (a.up * b.over + b.down * a.over) * (c.over * d.over) ≤ (b.up * a.over + a.down * b.over) * (c.over * d.over) = omega arith in
    le_of_mul-le-mul_right z (mul-pos h k)

-- where two numbers are differences whose cross products are in order, the first is at most the second
pub le_diff : (a b : Rat) (u v d w x e : ℕ) → IsDiff a u v d → IsDiff b w x e → u * e + x * d ≤ w * d + v * e
    → IsTrue (rat_le a b)
unfolding shown
le_diff a b u v d w x e r s l =
    le_test a b (orders (shown a) (shown b) (record { up = u; down = v; over = d }) (record { up = w; down = x; over = e }) r.positive s.positive r.same s.same l)

monotone : (pa ma da pb mb db pc mc dc : ℕ) → pb * dc + mc * db ≤ pc * db + mb * dc
    → (pa * db + pb * da) * (da * dc) + (ma * dc + mc * da) * (da * db) ≤ (pa * dc + pc * da) * (da * db) +
    (ma * db + mb * da) * (da * dc)
monotone pa ma da pb mb db pc mc dc h =
    let x : (pb * dc + mc * db) * (da * da) ≤ (pc * db + mb * dc) * (da * da) = mul-le-mul_right (da * da) h in omega arith

-- a larger summand gives a larger sum
pub plus_le : (a b c : Rat) → IsTrue (rat_le b c) → IsTrue (rat_le (plus a b) (plus a c))
plus_le a b c h =
    le_diff (plus a b) (plus a c) _ _ _ _ _ _ (plus_diff a b) (plus_diff a c)
    (monotone (positive_part a.num) (negative_part a.num) (den a) (positive_part b.num) (negative_part b.num)
    (den b) (positive_part c.num) (negative_part c.num) (den c) (le_fact b c h))

together : (p m q s t r u v d w x e : ℕ) → p * d + v * q ≡ u * q + m * d → s * e + x * r ≡ w * r + t * e
    → (p * r + s * q) * (d * e) + (v * e + x * d) * (q * r) ≡ (u * e + w * d) * (q * r) + (m * r + t * q) * (d * e)
together p m q s t r u v d w x e f g =
    let a : (p * d + v * q) * (r * e) ≡ (u * q + m * d) * (r * e) = ap (λ z. z * (r * e)) f in
    let b : (s * e + x * r) * (q * d) ≡ (w * r + t * e) * (q * d) = ap (λ z. z * (q * d)) g in
    omega arith

minus_parts : (a b : Rat) (p m : ℕ) → p ≡ positive_part (a.num *ℤ pos (den b) -ℤ b.num *ℤ pos (den a))
    → m ≡ negative_part (a.num *ℤ pos (den b) -ℤ b.num *ℤ pos (den a))
    → p + (negative_part a.num * den b + positive_part b.num * den a) ≡ m +
    (positive_part a.num * den b + negative_part b.num * den a)
minus_parts a b p m e f =
    let s = sub_parts (a.num *ℤ pos (den b)) (b.num *ℤ pos (den a)) in
    let x = scaled_parts a.num (den b) in
    let y = scaled_parts b.num (den a) in
    omega (arith, e, f, s, x.0, x.1, y.0, y.1)

-- the difference of two numbers is that of their cross products over the product of the denominators
pub minus_diff : (a b : Rat)
    → IsDiff (minus a b) (positive_part a.num * den b + negative_part b.num * den a)
    (negative_part a.num * den b + positive_part b.num * den a) (den a * den b)
unfolding minus
minus_diff a b =
    let h : 0 < den a * den b = mul-pos {m = den a} {n = den b} (omega arith) (omega arith) in
    let r = reduced_diff (a.num *ℤ pos (den b) -ℤ b.num *ℤ pos (den a)) (den a * den b) h in
    let k = minus_parts a b _ _ refl refl in
    let k' = ap (λ z. z * (den a * den b)) k in
    like (minus a b) _ _ _ (positive_part a.num * den b + negative_part b.num * den a) (negative_part a.num * den b + positive_part b.num * den a) (den a * den b) r (omega (arith, k')) h

-- where two numbers are differences over naturals, the first minus the second is that of the cross products over both
pub minus_of : (a b : Rat) (u v d w x e : ℕ) → IsDiff a u v d → IsDiff b w x e
    → IsDiff (minus a b) (u * e + x * d) (v * e + w * d) (d * e)
minus_of a b u v d w x e r s =
    like (minus a b) _ _ _ (u * e + x * d) (v * e + w * d) (d * e) (minus_diff a b)
    (together (positive_part a.num) (negative_part a.num) (den a) (negative_part b.num) (positive_part b.num) (den b) u v d x w e r.same (omega (arith, s.same))) (mul-pos r.positive s.positive)

-- sums and differences of numbers shown in any way
pub plus_of : (a b : Rat) (u v d w x e : ℕ) → IsDiff a u v d → IsDiff b w x e
    → IsDiff (plus a b) (u * e + w * d) (v * e + x * d) (d * e)
plus_of a b u v d w x e r s =
    like (plus a b) _ _ _ (u * e + w * d) (v * e + x * d) (d * e) (plus_diff a b)
    (together (positive_part a.num) (negative_part a.num) (den a) (positive_part b.num) (negative_part b.num) (den b) u v d w x e r.same s.same) (mul-pos r.positive s.positive)

-- what the test says, by the naturals
pub diff_le : (a b : Rat) (u v d w x e : ℕ) → IsDiff a u v d → IsDiff b w x e → IsTrue (rat_le a b)
    → u * e + x * d ≤ w * d + v * e
unfolding shown
diff_le a b u v d w x e r s l =
    orders (record { up = u; down = v; over = d }) (record { up = w; down = x; over = e }) (shown a) (shown b) (omega arith) (omega arith) (sym r.same) (sym s.same) (le_fact a b l)

-- where two numbers are differences whose cross products are strictly in order, the first is below the second
pub lt_diff : (a b : Rat) (u v d w x e : ℕ) → IsDiff a u v d → IsDiff b w x e → u * e + x * d < w * d + v * e
    → IsTrue (rat_lt a b)
lt_diff a b u v d w x e r s l = not_le_lt a b (λ k. let m = diff_le b a w x e u v d s r k in omega arith)

pub diff_lt : (a b : Rat) (u v d w x e : ℕ) → IsDiff a u v d → IsDiff b w x e → IsTrue (rat_lt a b)
    → u * e + x * d < w * d + v * e
diff_lt a b u v d w x e r s l =
    let n : w * d + v * e ≤ u * e + x * d → ⊥ = λ (k : w * d + v * e ≤ u * e + x * d). lt_not_le a b l (le_diff b a w x e u v d s r k) in omega arith

pub zero_diff : IsDiff zero_rat 0 0 1
zero_diff = record { positive = omega arith; same = refl }

-- a whole number is what it has above 0 minus what it has below, over 1
pub of_int_diff : (z : ℤ) → IsDiff (of_int z) (positive_part z) (negative_part z) 1
of_int_diff z = itself (of_int z)

pub negated_diff : (a : Rat) (u v d : ℕ) → IsDiff a u v d → IsDiff (negated a) v u d
negated_diff a u v d r =
    let n = neg_parts a.num in record { positive = r.positive; same = rw (n.0, n.1) (omega (arith, r.same)) }

product_parts : (x y : ℤ)
    → positive_part (x *ℤ y) + (positive_part x * negative_part y + negative_part x * positive_part y) ≡ negative_part
    (x *ℤ y) + (positive_part x * positive_part y + negative_part x * negative_part y)
product_parts (pos n) (pos m) = omega arith
product_parts (pos n) (negsuc m) = let e = neg_parts (pos (n * suc m)) in rw (e.0, e.1) (omega arith)
product_parts (negsuc n) (pos m) = let e = neg_parts (pos (suc n * m)) in rw (e.0, e.1) (omega arith)
product_parts (negsuc n) (negsuc m) = omega arith

-- the product, of two numbers as they show themselves
pub times_diff : (a b : Rat)
    → IsDiff (times a b) (positive_part a.num * positive_part b.num + negative_part a.num * negative_part b.num)
    (positive_part a.num * negative_part b.num + negative_part a.num * positive_part b.num) (den a * den b)
unfolding times
times_diff a b =
    let h : 0 < den a * den b = mul-pos {m = den a} {n = den b} (omega arith) (omega arith) in
    let r = reduced_diff (a.num *ℤ b.num) (den a * den b) h in
    let k = product_parts a.num b.num in
    let k' = ap (λ z. z * (den a * den b)) k in
    like (times a b) _ _ _ (positive_part a.num * positive_part b.num + negative_part a.num * negative_part b.num)
    (positive_part a.num * negative_part b.num + negative_part a.num * positive_part b.num) (den a * den b) r (omega (arith, k')) h

monotone_minus : (pa ma da pb mb db pc mc dc : ℕ) → pb * dc + mc * db ≤ pc * db + mb * dc
    → (pa * dc + mc * da) * (da * db) + (ma * db + pb * da) * (da * dc) ≤ (pa * db + mb * da) * (da * dc) +
    (ma * dc + pc * da) * (da * db)
monotone_minus pa ma da pb mb db pc mc dc h =
    let x : (pb * dc + mc * db) * (da * da) ≤ (pc * db + mb * dc) * (da * da) = mul-le-mul_right (da * da) h in omega arith

-- a larger number taken away leaves less
pub minus_le : (a b c : Rat) → IsTrue (rat_le b c) → IsTrue (rat_le (minus a c) (minus a b))
minus_le a b c h =
    le_diff (minus a c) (minus a b) _ _ _ _ _ _ (minus_diff a c) (minus_diff a b)
    (monotone_minus (positive_part a.num) (negative_part a.num) (den a) (positive_part b.num)
    (negative_part b.num) (den b) (positive_part c.num) (negative_part c.num) (den c) (le_fact b c h))
