-- The order of rational numbers: it is total, and the tests of the code are its tests.
use Rattle.std.proofs.Common.{◌≡◌, ℕ, zero, suc, ◌+◌, ◌*◌, ◌-◌, ◌≤◌, ◌<◌, refl, arith, true, false, Bool, inl, inr, ◌⊎◌, ℤ, pos, negsuc, neg_ℤ}
use Rattle.std.specs.Prelude.{IsTrue, nat_le, not, ◌*ℤ◌, ◌<ℤ◌}
use Rattle.std.specs.Ordering.{MatchOrdering, nat_cmp, int_cmp}
use Rattle.std.specs.declared.cmp.Ordering.{Ordering}
use Rattle.std.specs.declared.cmp.Ordering.TheVariants.{Less, Equal, Greater}
use Rattle.std.specs.Cmp.{int_ranks, nat_cmp_is}
use Rattle.std.proofs.Math.Nat.{mul-le-mul_right, le_of_mul-le-mul_right}
use Rattle.std.proofs.lemmas.Bool.Decides.{leb_tells, nat_tests}
use borrow.Author.Differences.{le-true, le-false, lt_out, same_out}
use lib.Signed.{le_z, lt_z}
use Rattle.cga_fraction.specs.Rat.{Rat, den, zero_rat}
use Rattle.cga_fraction.specs.Order.{positive_part, negative_part, cross, rat_le, rat_lt, rat_cmp}

-- ---- what the test says, by naturals

pub le_fact : (a b : Rat) → IsTrue (rat_le a b) → cross a b ≤ cross b a
unfolding rat_le
le_fact a b h = grind (arith, nat_tests)

pub le_test : (a b : Rat) → cross a b ≤ cross b a → IsTrue (rat_le a b)
unfolding rat_le
le_test a b h = grind (arith, nat_tests)

-- ---- laws

-- a number is at most itself
pub le_refl : (a : Rat) → IsTrue (rat_le a a)
le_refl a = le_test a a (omega arith)

-- of two numbers one is at most the other
pub le_total : (a b : Rat) → IsTrue (rat_le a b) ⊎ IsTrue (rat_le b a)
unfolding rat_le
le_total a b = grind (arith, nat_tests)

-- cross products in a chain
chain : (p m q n r k d e f : ℕ) → 0 < e → p * e + n * d ≤ q * d + m * e → q * f + k * e ≤ r * e + n * f
    → p * f + k * d ≤ r * d + m * f
chain p m q n r k d e f h x y =
    let x' : (p * e + n * d) * f ≤ (q * d + m * e) * f = mul-le-mul_right f x in
    let y' : (q * f + k * e) * d ≤ (r * e + n * f) * d = mul-le-mul_right d y in
    let z : (p * f + k * d) * e ≤ (r * d + m * f) * e = omega arith in
    le_of_mul-le-mul_right z h

-- where a number is at most a second and that at most a third, the first is at most the third
pub le_trans : (a b c : Rat) → IsTrue (rat_le a b) → IsTrue (rat_le b c) → IsTrue (rat_le a c)
le_trans a b c h k =
    le_test a c (chain (positive_part a.num) (negative_part a.num) (positive_part b.num) (negative_part b.num)
    (positive_part c.num) (negative_part c.num) (den a) (den b) (den c) (omega arith) (le_fact a b h) (le_fact b c k))

-- where a number is below another, the other isn't at most it
pub lt_not_le : (a b : Rat) → IsTrue (rat_lt a b) → IsTrue (rat_le b a) → ⊥
lt_not_le a b h k = grind arith

-- where a number isn't at most another, the other is below it
pub not_le_lt : (a b : Rat) → (IsTrue (rat_le b a) → ⊥) → IsTrue (rat_lt a b)
not_le_lt a b h = grind arith

-- where a number is below another, its side of their cross products is below the other's
pub lt_fact : (a b : Rat) → IsTrue (rat_lt a b) → cross a b < cross b a
unfolding rat_le
lt_fact a b h = grind (arith, nat_tests)

-- where a number's side of the cross products with another is below the other's, it is below the other
pub lt_test : (a b : Rat) → cross a b < cross b a → IsTrue (rat_lt a b)
unfolding rat_le
lt_test a b h = grind (arith, nat_tests)

-- where a number is below another, it is at most it
pub lt_le : (a b : Rat) → IsTrue (rat_lt a b) → IsTrue (rat_le a b)
lt_le a b h = elim (le_total a b) [ inl k ↦ k | inr k ↦ absurd (lt_not_le a b h k) ]

-- where a number is at most a second and that below a third, the first is below the third
pub lt_of_le_lt : (a b c : Rat) → IsTrue (rat_le a b) → IsTrue (rat_lt b c) → IsTrue (rat_lt a c)
lt_of_le_lt a b c h k = not_le_lt a c (λ w. lt_not_le b c k (le_trans c a b w h))

-- where a number is below a second and that at most a third, the first is below the third
pub lt_of_lt_le : (a b c : Rat) → IsTrue (rat_lt a b) → IsTrue (rat_le b c) → IsTrue (rat_lt a c)
lt_of_lt_le a b c h k = not_le_lt a c (λ w. lt_not_le a b h (le_trans b c a k w))

-- where a number is below a second and that below a third, the first is below the third
pub lt_trans : (a b c : Rat) → IsTrue (rat_lt a b) → IsTrue (rat_lt b c) → IsTrue (rat_lt a c)
lt_trans a b c h k = lt_of_le_lt a b c (lt_le a b h) k

pub lt_irrefl : (a : Rat) → IsTrue (rat_lt a a) → ⊥
lt_irrefl a h = lt_not_le a a h (le_refl a)

-- no two numbers are each below the other
pub lt_asym : (a b : Rat) → IsTrue (rat_lt a b) → IsTrue (rat_lt b a) → ⊥
lt_asym a b h k = lt_not_le a b h (lt_le b a k)

-- ---- the tests of the code

-- a test of whole numbers is a test of naturals that says the same
le_is : (x y : ℤ) (u v : ℕ) → (positive_part x + negative_part y ≤ positive_part y + negative_part x → u ≤ v)
    → (u ≤ v → positive_part x + negative_part y ≤ positive_part y + negative_part x) → (t : Bool) → le_z x y ≡ t
    → t ≡ nat_le u v
le_is x y u v f g true e = let h : u ≤ v = f (le-true x y e) in grind (arith, leb_tells u v)
le_is x y u v f g false e =
    let n : u ≤ v → ⊥ = λ (h : u ≤ v). (let k = g h in let l = le-false x y e in omega arith) in grind (arith, leb_tells u v)

ranked : (A B C P Q R : Type 0) (r : Ordering) → MatchOrdering r A B C → (A → P) → (B → Q) → (C → R)
    → MatchOrdering r P Q R
ranked A B C P Q R Less h f g k = f h
ranked A B C P Q R Equal h f g k = g h
ranked A B C P Q R Greater h f g k = k h

cmp_is : (x y : ℤ) (u v : ℕ) → (positive_part x + negative_part y < positive_part y + negative_part x → u < v)
    → (x ≡ y → u ≡ v) → (positive_part y + negative_part x < positive_part x + negative_part y → v < u)
    → int_cmp x y ≡ nat_cmp u v
cmp_is x y u v f g k =
    nat_cmp_is u v (int_cmp x y) (ranked (x <ℤ y) (x ≡ y) (y <ℤ x) (u < v) (u ≡ v) (v < u) (int_cmp x y) (int_ranks x y) (λ h. f (lt_out x y h)) g (λ h. k (lt_out y x h)))

-- the negative of a number has its parts the other way round
pub neg_parts : (z : ℤ) → (positive_part (neg_ℤ z) ≡ negative_part z) × (negative_part (neg_ℤ z) ≡ positive_part z)
neg_parts (pos zero) = (refl, refl)
neg_parts (pos (suc n)) = (refl, refl)
neg_parts (negsuc n) = (refl, refl)

-- a product with a natural has the products of the parts
pub scaled_parts : (x : ℤ) (k : ℕ)
    → (positive_part (x *ℤ pos k) ≡ positive_part x * k) × (negative_part (x *ℤ pos k) ≡ negative_part x * k)
scaled_parts (pos n) k = (refl, omega arith)
scaled_parts (negsuc n) k = let m = neg_parts (pos (suc n * k)) in (rw m.0 (omega arith), m.1)

pub le-cross : (a b : Rat) → le_z (a.num *ℤ pos (den b)) (b.num *ℤ pos (den a)) ≡ rat_le a b
unfolding rat_le
le-cross a b =
    let p = scaled_parts a.num (den b) in
    let q = scaled_parts b.num (den a) in
    le_is (a.num *ℤ pos (den b)) (b.num *ℤ pos (den a)) (cross a b) (cross b a) (λ h. omega (arith, h, p.0, p.1, q.0, q.1)) (λ h. omega (arith, h, p.0, p.1, q.0, q.1)) _ refl

pub cmp-cross : (a b : Rat) → int_cmp (a.num *ℤ pos (den b)) (b.num *ℤ pos (den a)) ≡ rat_cmp a b
unfolding rat_cmp
cmp-cross a b =
    let p = scaled_parts a.num (den b) in
    let q = scaled_parts b.num (den a) in
    cmp_is (a.num *ℤ pos (den b)) (b.num *ℤ pos (den a)) (cross a b) (cross b a) (λ h. omega (arith, h, p.0, p.1, q.0, q.1))
    (λ h. let e = same_out (a.num *ℤ pos (den b)) (b.num *ℤ pos (den a)) h in omega (arith, e.0, e.1, p.0, p.1, q.0, q.1)) (λ h. omega (arith, h, p.0, p.1, q.0, q.1))

scale_le : (p n q m d : ℕ) → 0 < d
    → (p + n ≤ q + m → p * d + n * d ≤ q * d + m * d) × (p * d + n * d ≤ q * d + m * d → p + n ≤ q + m)
scale_le p n q m d h = (
  λ k. let l : (p + n) * d ≤ (q + m) * d = mul-le-mul_right d k in omega arith,
  λ k. let l : (p + n) * d ≤ (q + m) * d = omega arith in le_of_mul-le-mul_right l h,
)

scale_lt : (p n q m d : ℕ) → 0 < d → p + n < q + m → p * d + n * d < q * d + m * d
scale_lt p n q m d h k =
    let l : suc (p + n) * d ≤ (q + m) * d = mul-le-mul_right d k in omega arith

-- over equal denominators the numerators decide
pub le-numerators : (a b : Rat) → den a ≡ den b → le_z a.num b.num ≡ rat_le a b
unfolding rat_le
le-numerators a b e =
    let s = scale_le (positive_part a.num) (negative_part b.num) (positive_part b.num) (negative_part a.num) (den b) (omega arith) in
    le_is a.num b.num (cross a b) (cross b a) (λ h. let k = s.0 h in rw e k) (λ h. let k = (rw e at h) in s.1 k) _ refl

pub cmp-numerators : (a b : Rat) → den a ≡ den b → int_cmp a.num b.num ≡ rat_cmp a b
unfolding rat_cmp
cmp-numerators a b e =
    cmp_is a.num b.num (cross a b) (cross b a)
    (λ h. let k = scale_lt (positive_part a.num) (negative_part b.num) (positive_part b.num) (negative_part a.num) (den b) (omega arith) h in rw e k)
    (λ h. let k = same_out a.num b.num h in rw (e, h) refl)
    (λ h. let k = scale_lt (positive_part b.num) (negative_part a.num) (positive_part a.num) (negative_part b.num) (den b) (omega arith) h in rw e k)

-- ---- the same, of numbers that are shown to be the operands

-- a number by the parts that the code keeps
abbrev pub by_parts : ℤ → ℕ → Rat
by_parts n d = record { num = n; above = d - 1 }

den-by_parts : (n : ℤ) (d : ℕ) → 0 < d → den (by_parts n d) ≡ d
den-by_parts n d h = omega arith

pub at_most_same : (a b : Rat) (m n : ℤ) (d : ℕ) (x y : ℤ) → by_parts m d ≡ a → by_parts n d ≡ b → x ≡ m → y ≡ n
    → le_z x y ≡ rat_le a b
at_most_same a b m n d x y p q e f = rw (← p, ← q, e, f) (le-numerators (by_parts m d) (by_parts n d) refl)

pub at_most_cross : (a b : Rat) (m n : ℤ) (d e : ℕ) (x y : ℤ) → by_parts m d ≡ a → by_parts n e ≡ b → 0 < d → 0 < e
    → x ≡ m *ℤ pos e → y ≡ n *ℤ pos d → le_z x y ≡ rat_le a b
at_most_cross a b m n d e x y p q h k u v =
    let i = den-by_parts m d h in
    let j = den-by_parts n e k in
    rw (← p, ← q, u, v) (rw (i, j) at (le-cross (by_parts m d) (by_parts n e)))

pub compared_same : (a b : Rat) (m n : ℤ) (d : ℕ) (r : Ordering) → by_parts m d ≡ a → by_parts n d ≡ b → r ≡ int_cmp m n
    → r ≡ rat_cmp a b
compared_same a b m n d r p q h = rw (← p, ← q, h) (cmp-numerators (by_parts m d) (by_parts n d) refl)

pub compared_cross : (a b : Rat) (m n : ℤ) (d e : ℕ) (r : Ordering) → by_parts m d ≡ a → by_parts n e ≡ b → 0 < d
    → 0 < e → r ≡ int_cmp (m *ℤ pos e) (n *ℤ pos d) → r ≡ rat_cmp a b
compared_cross a b m n d e r p q h k o =
    let i = den-by_parts m d h in
    let j = den-by_parts n e k in
    rw (← p, ← q, o) (rw (i, j) at (cmp-cross (by_parts m d) (by_parts n e)))

negative_at : (n : ℤ) (d : ℕ) → 0 < d
    → lt_z n (pos 0) ≡ not (nat_le (0 * d + negative_part n * (0 + 1)) (positive_part n * (0 + 1) + 0 * d))
negative_at (pos n) d h = grind (arith, nat_tests)
negative_at (negsuc n) d h = grind (arith, nat_tests)

positive_at : (n : ℤ) (d : ℕ) → 0 < d
    → lt_z (pos 0) n ≡ not (nat_le (positive_part n * (0 + 1) + 0 * d) (0 * d + negative_part n * (0 + 1)))
positive_at (pos n) d h = grind (arith, nat_tests)
positive_at (negsuc n) d h = grind (arith, nat_tests)

pub negative_is : (a : Rat) (x : ℤ) → x ≡ a.num → lt_z x (pos 0) ≡ rat_lt a zero_rat
unfolding rat_le
negative_is a x e = rw e (negative_at a.num (den a) (omega arith))

-- the test whether the numerator is above 0 is the test whether the number is
pub positive_is : (a : Rat) (x : ℤ) → x ≡ a.num → lt_z (pos 0) x ≡ rat_lt zero_rat a
unfolding rat_le
positive_is a x e = rw e (positive_at a.num (den a) (omega arith))
