-- Laws of numbers in lowest terms, and of the least and the greatest.
use Rattle.std.proofs.Common.{◌≡◌, ℕ, zero, suc, ◌+◌, ◌*◌, ◌/◌, ◌≤◌, ◌<◌, arith, refl, ap, ◌∙◌, ℤ, pos, negsuc, true, false, Bool, ◌^◌, Ok, Err, inl, inr}
use Rattle.std.specs.Prelude.{IsTrue, unsigned_abs, neg_ℤ, nat_le, ◌+ℤ◌, if◌then◌else◌}
use Rattle.std.proofs.lemmas.Bool.Decides.{leb_tells}
use Rattle.std.proofs.Math.Nat.{mul-pos, eq_of_mul-eq-mul_right}
use Rattle.cga_fraction.specs.Gcd.{gcd}
use Rattle.cga_fraction.specs.Rat.{Rat, den, zero_rat, IsFraction}
use Rattle.cga_fraction.specs.Arithmetic.{reduced, plus, minus, times, negated}
use Rattle.cga_fraction.specs.Order.{positive_part, negative_part, rat_le, rat_lt, rat_min, rat_max}
use Rattle.cga_fraction.specs.Refusals.{checked, in_range}
use Rattle.cga_fraction.specs.declared.overflow.Overflow.{Overflow}
use Rattle.cga_fraction.proofs.Gcds.{same_lowest}
use Rattle.cga_fraction.proofs.Lowest.{abs-with_sign, den-reduced, lowest}
use Rattle.cga_fraction.proofs.Order.{le_fact, le_refl, le_total, lt_fact, lt_test}
use Rattle.cga_fraction.proofs.Diffs.{IsDiff, itself, le_diff, plus_diff, plus_of, minus_diff, minus_of, zero_diff, sum_parts}
use Rattle.std.proofs.lemmas.Bool.{and_parts as in_both}

-- in lowest terms
pub record IsLowest (a : Rat) : Type 0 where
  pub coprime : gcd (unsigned_abs a.num) (den a) ≡ 1

-- a fraction is in lowest terms
pub fraction_lowest : (a : Rat) → IsFraction a → IsLowest a
fraction_lowest a h = record { coprime = h.lowest }

num-reduced : (n : ℤ) (d : ℕ) → unsigned_abs (reduced n d).num ≡ unsigned_abs n / gcd (unsigned_abs n) d
unfolding reduced
num-reduced n d = abs-with_sign n _

pub reduced_lowest : (n : ℤ) (d : ℕ) → 0 < d → IsLowest (reduced n d)
reduced_lowest n d h = record { coprime = rw (num-reduced n d, den-reduced n d h) (lowest (unsigned_abs n) d h) }

dens_positive : (a b : Rat) → 0 < den a * den b
dens_positive a b = mul-pos {m = den a} {n = den b} (omega arith) (omega arith)

pub plus_lowest : (a b : Rat) → IsLowest (plus a b)
unfolding plus
plus_lowest a b = reduced_lowest _ (den a * den b) (dens_positive a b)

-- a difference is in lowest terms
pub minus_lowest : (a b : Rat) → IsLowest (minus a b)
unfolding minus
minus_lowest a b = reduced_lowest _ (den a * den b) (dens_positive a b)

-- a product is in lowest terms
pub times_lowest : (a b : Rat) → IsLowest (times a b)
unfolding times
times_lowest a b = reduced_lowest _ (den a * den b) (dens_positive a b)

-- ---- equal by their order

same_parts : (a b : Rat) → a.num ≡ b.num → den a ≡ den b → a ≡ b
same_parts a b e f =
    let g : a.above ≡ b.above = omega arith in
    let mk : ℤ → ℕ → Rat = λ (n : ℤ) (k : ℕ). record { num = n; above = k } in
    ap (λ (n : ℤ). mk n a.above) e ∙ ap (λ (k : ℕ). mk b.num k) g

over_pos : (n x m y : ℕ) → gcd n (x + 1) ≡ 1 → gcd m (y + 1) ≡ 1 → n * (y + 1) ≡ m * (x + 1) → (x + 1 ≡ y + 1) × (n ≡ m)
over_pos n x m y p q e =
    let d : x + 1 ≡ y + 1 = same_lowest n (x + 1) m (y + 1) p q e in
    let e' : n * (y + 1) ≡ m * (y + 1) = e ∙ ap (λ z. m * z) d in
    (d, eq_of_mul-eq-mul_right (y + 1) (omega arith) n m e')

same_at : (n m : ℤ) (x y : ℕ) → gcd (unsigned_abs n) (x + 1) ≡ 1 → gcd (unsigned_abs m) (y + 1) ≡ 1
    → IsTrue (rat_le (record { num = n; above = x }) (record { num = m; above = y }))
    → IsTrue (rat_le (record { num = m; above = y }) (record { num = n; above = x })) → (x + 1 ≡ y + 1) × (n ≡ m)
same_at (pos n) (pos m) x y p q h k =
    let f = le_fact (record { num = pos n; above = x }) (record { num = pos m; above = y }) h in let g = le_fact (record { num = pos m; above = y }) (record { num = pos n; above = x }) k in
    let w = over_pos n x m y p q (omega arith) in (w.0, ap pos w.1)
same_at (pos n) (negsuc m) x y p q h k = let f = le_fact (record { num = pos n; above = x })
    (record { num = negsuc m; above = y }) h in let g : n * (y + 1) + suc m * (x + 1) ≤ 0 = omega arith in absurd (omega arith)
same_at (negsuc n) (pos m) x y p q h k = let f = le_fact (record { num = pos m; above = y })
    (record { num = negsuc n; above = x }) k in let g : m * (x + 1) + suc n * (y + 1) ≤ 0 = omega arith in absurd (omega arith)
same_at (negsuc n) (negsuc m) x y p q h k =
    let f = le_fact (record { num = negsuc n; above = x }) (record { num = negsuc m; above = y }) h in
    let g = le_fact (record { num = negsuc m; above = y }) (record { num = negsuc n; above = x }) k in
    let w = over_pos (suc n) x (suc m) y p q (omega arith) in (w.0, ap negsuc (omega (arith, w.1)))

-- two numbers in lowest terms, each at most the other, are one
pub same_value : (a b : Rat) → IsLowest a → IsLowest b → IsTrue (rat_le a b) → IsTrue (rat_le b a) → a ≡ b
same_value a b p q h k = let w = same_at a.num b.num a.above b.above p.coprime q.coprime h k in same_parts a b w.1 w.0

-- two numbers in lowest terms that are one difference of naturals are one
pub same_diff : (a b : Rat) (u v d w x e : ℕ) → IsLowest a → IsLowest b → IsDiff a u v d → IsDiff b w x e
    → u * e + x * d ≡ w * d + v * e → a ≡ b
same_diff a b u v d w x e p q r s h = same_value a b p q (le_diff a b u v d w x e r s (omega arith)) (le_diff b a w x e u v d s r (omega arith))

-- ---- what undoes what

back_naturals : (pa ma da ps ms ds : ℕ)
    → ((pa * ds + ps * da) * ds + ms * (da * ds)) * da + ma * (da * ds * ds) ≡ pa * (da * ds * ds) +
    ((ma * ds + ms * da) * ds + ps * (da * ds)) * da
back_naturals pa ma da ps ms ds = omega arith

-- where a number is in lowest terms, a second added to it and taken away again gives it back
pub minus-plus : (a s : Rat) → IsLowest a → minus (plus a s) s ≡ a
minus-plus a s l =
    same_diff (minus (plus a s) s) a _ _ _ _ _ _ (minus_lowest (plus a s) s) l (minus_of (plus a s) s _ _ _ _ _ _ (plus_diff a s) (itself s)) (itself a)
    (back_naturals (positive_part a.num) (negative_part a.num) (den a) (positive_part s.num) (negative_part s.num) (den s))

forth_naturals : (pa ma da ps ms ds : ℕ)
    → ((pa * ds + ms * da) * ds + ps * (da * ds)) * da + ma * (da * ds * ds) ≡ pa * (da * ds * ds) +
    ((ma * ds + ps * da) * ds + ms * (da * ds)) * da
forth_naturals pa ma da ps ms ds = omega arith

-- where a number is in lowest terms, a second taken away from it and added again gives it back
pub plus-minus : (a s : Rat) → IsLowest a → plus (minus a s) s ≡ a
plus-minus a s l =
    same_diff (plus (minus a s) s) a _ _ _ _ _ _ (plus_lowest (minus a s) s) l (plus_of (minus a s) s _ _ _ _ _ _ (minus_diff a s) (itself s)) (itself a)
    (forth_naturals (positive_part a.num) (negative_part a.num) (den a) (positive_part s.num) (negative_part s.num) (den s))

left_naturals : (pa ma da ps ms ds : ℕ)
    → ((pa * ds + ps * da) * da + ma * (da * ds)) * ds + ms * (da * ds * da) ≡ ps * (da * ds * da) +
    ((ma * ds + ms * da) * da + pa * (da * ds)) * ds
left_naturals pa ma da ps ms ds = omega arith

-- the difference of a sum and its first part is the second
pub minus-plus_left : (a s : Rat) → IsLowest s → minus (plus a s) a ≡ s
minus-plus_left a s l =
    same_diff (minus (plus a s) a) s _ _ _ _ _ _ (minus_lowest (plus a s) a) l (minus_of (plus a s) a _ _ _ _ _ _ (plus_diff a s) (itself a)) (itself s)
    (left_naturals (positive_part a.num) (negative_part a.num) (den a) (positive_part s.num) (negative_part s.num) (den s))

-- where a number is in lowest terms, 0 added to it gives it
pub plus-zero : (a : Rat) → IsLowest a → plus a zero_rat ≡ a
plus-zero a l = same_diff (plus a zero_rat) a _ _ _ _ _ _ (plus_lowest a zero_rat) l (plus_of a zero_rat _ _ _ _ _ _ (itself a) zero_diff) (itself a) (omega arith)

-- where a number is in lowest terms, 0 taken away from it gives it
pub minus-zero : (a : Rat) → IsLowest a → minus a zero_rat ≡ a
minus-zero a l = same_diff (minus a zero_rat) a _ _ _ _ _ _ (minus_lowest a zero_rat) l (minus_of a zero_rat _ _ _ _ _ _ (itself a) zero_diff) (itself a) (omega arith)

pub plus_comm : (a b : Rat) → plus a b ≡ plus b a
plus_comm a b = same_diff (plus a b) (plus b a) _ _ _ _ _ _ (plus_lowest a b) (plus_lowest b a) (plus_diff a b) (plus_diff b a) (omega arith)

neg-neg : (z : ℤ) → neg_ℤ (neg_ℤ z) ≡ z
neg-neg (pos zero) = refl
neg-neg (pos (suc n)) = refl
neg-neg (negsuc n) = refl

pub negated-negated : (a : Rat) → negated (negated a) ≡ a
negated-negated a = same_parts (negated (negated a)) a (neg-neg a.num) refl

-- ---- what a result that isn't refused says

-- a result that isn't refused is the exact one
pub checked_is : (r a : Rat) → checked r ≡ Ok a → r ≡ a
unfolding checked
checked_is r a h = grind arith

checked_at : (r : Rat) (t : Bool) → in_range r ≡ t → checked r ≡ (if t then Ok r else Err (record {}))
unfolding checked
checked_at r t e = rw e refl

in_range_at : (r a : Rat) (t : Bool) → in_range r ≡ t → checked r ≡ Ok a → in_range r ≡ true
in_range_at r a true e h = e
in_range_at r a false e h = absurd (let k = checked_at r false e in cc)

out_of_range_at : (r : Rat) (o : Overflow) (t : Bool) → in_range r ≡ t → checked r ≡ Err o → in_range r ≡ false
out_of_range_at r o true e h = absurd (let k = checked_at r true e in cc)
out_of_range_at r o false e h = e

-- where a result isn't refused, it is in range
pub in_range_from_ok : (r a : Rat) → checked r ≡ Ok a → in_range r ≡ true
in_range_from_ok r a h = in_range_at r a (in_range r) refl h

-- where a result is refused, it is out of range
pub out_of_range_from_err : (r : Rat) (e : Overflow) → checked r ≡ Err e → in_range r ≡ false
out_of_range_from_err r e h = out_of_range_at r e (in_range r) refl h

-- where a result is in range, it is given as it is
pub checked_in_range : (r : Rat) → in_range r ≡ true → checked r ≡ Ok r
checked_in_range r h = checked_at r true h

-- a result in lowest terms that isn't refused is a fraction
pub fraction_from_ok : (r a : Rat) → IsLowest r → checked r ≡ Ok a → IsFraction a
fraction_from_ok r a l h =
    let k = in_both (nat_le (unsigned_abs r.num) (2 ^ 62)) (nat_le (den r) (2 ^ 62)) (in_range_from_ok r a h) in
    rw (← checked_is r a h) (record {
      positive = omega arith;
      lowest = l.coprime;
      numerator = grind (arith, leb_tells (unsigned_abs r.num) (2 ^ 62));
      denominator = grind (arith, leb_tells (den r) (2 ^ 62));
    })

-- a fraction is in range
pub fraction_in_range : (a : Rat) → IsFraction a → in_range a ≡ true
fraction_in_range a h =
    let x : nat_le (unsigned_abs a.num) (2 ^ 62) ≡ true = let k = h.numerator in grind (arith, leb_tells (unsigned_abs a.num) (2 ^ 62)) in
    let y : nat_le (den a) (2 ^ 62) ≡ true = let k = h.denominator in grind (arith, leb_tells (den a) (2 ^ 62)) in rw (x, y) refl

-- ---- the least and the greatest

not_le_ge : (a b : Rat) → rat_le a b ≡ false → IsTrue (rat_le b a)
not_le_ge a b e = elim (le_total a b) [ inl k ↦ absurd (grind arith) | inr k ↦ k ]

min_at : (a b : Rat) (t : Bool) → rat_le a b ≡ t
    → IsTrue (rat_le (if t then a else b) a) × IsTrue (rat_le (if t then a else b) b)
min_at a b true e = (le_refl a, grind arith)
min_at a b false e = (not_le_ge a b e, le_refl b)

max_at : (a b : Rat) (t : Bool) → rat_le a b ≡ t
    → IsTrue (rat_le a (if t then b else a)) × IsTrue (rat_le b (if t then b else a))
max_at a b true e = (grind arith, le_refl b)
max_at a b false e = (le_refl a, not_le_ge a b e)

-- the least of two is at most both, and no smaller than what is at most both
pub min_below : (a b : Rat) → IsTrue (rat_le (rat_min a b) a) × IsTrue (rat_le (rat_min a b) b)
unfolding rat_min
min_below a b = min_at a b (rat_le a b) refl

either : (P : Rat → Type 0) (a b : Rat) (t : Bool) → P a → P b → P (if t then a else b)
either P a b true p q = p
either P a b false p q = q

-- a number that is at most each of two is at most the least of them
pub min_greatest : (x a b : Rat) → IsTrue (rat_le x a) → IsTrue (rat_le x b) → IsTrue (rat_le x (rat_min a b))
unfolding rat_min
min_greatest x a b h k = either (λ z. IsTrue (rat_le x z)) a b (rat_le a b) h k

-- the greatest of two is at least both, and no greater than what is at least both
pub max_above : (a b : Rat) → IsTrue (rat_le a (rat_max a b)) × IsTrue (rat_le b (rat_max a b))
unfolding rat_max
max_above a b = max_at a b (rat_le a b) refl

-- a number that is at least each of two is at least the greatest of them
pub max_least : (x a b : Rat) → IsTrue (rat_le a x) → IsTrue (rat_le b x) → IsTrue (rat_le (rat_max a b) x)
unfolding rat_max
max_least x a b h k = either (λ z. IsTrue (rat_le z x)) b a (rat_le a b) k h

-- a number below each of two is below the least of them
pub lt_min : (x a b : Rat) → IsTrue (rat_lt x a) → IsTrue (rat_lt x b) → IsTrue (rat_lt x (rat_min a b))
unfolding rat_min
lt_min x a b h k = either (λ z. IsTrue (rat_lt x z)) a b (rat_le a b) h k

-- a number above each of two is above the greatest of them
pub max_lt : (x a b : Rat) → IsTrue (rat_lt a x) → IsTrue (rat_lt b x) → IsTrue (rat_lt (rat_max a b) x)
unfolding rat_max
max_lt x a b h k = either (λ z. IsTrue (rat_lt z x)) b a (rat_le a b) k h

-- ---- between two numbers there is one

-- the sum of the numerators over the sum of the denominators
pub mediant : Rat → Rat → Rat
mediant a b = record { num = a.num +ℤ b.num; above = a.above + b.above + 1 }

-- where a number is below another, their mediant is above the one and below the other
pub between : (a b : Rat) → IsTrue (rat_lt a b) → IsTrue (rat_lt a (mediant a b)) × IsTrue (rat_lt (mediant a b) b)
unfolding mediant
between a b h =
    let s = sum_parts a.num b.num in
    let l = lt_fact a b h in (
      lt_test a (record { num = a.num +ℤ b.num; above = a.above + b.above + 1 }) (let k = ap (λ z. z * den a) s in omega (arith, k)),
      lt_test (record { num = a.num +ℤ b.num; above = a.above + b.above + 1 }) b (let k = ap (λ z. z * den b) s in omega (arith, k)),
    )
