-- Sums that need no cross products.
use Rattle.std.proofs.Common.{◌≡◌, ℕ, ◌+◌, ◌-◌, ◌*◌, ◌<◌, arith, refl, ap, sym, ℤ, pos, Ok, Result}
use Rattle.std.specs.Prelude.{◌+ℤ◌}
use Rattle.cga_fraction.specs.Rat.{Rat, den, IsFraction}
use Rattle.cga_fraction.specs.Arithmetic.{reduced, plus}
use Rattle.cga_fraction.specs.Order.{positive_part, negative_part}
use Rattle.cga_fraction.specs.Refusals.{checked}
use Rattle.cga_fraction.specs.declared.overflow.Overflow.{Overflow}
use Rattle.cga_fraction.proofs.Diffs.{itself, plus_diff, reduced_diff, sum_parts}
use Rattle.cga_fraction.proofs.Order.{by_parts}
use Rattle.cga_fraction.proofs.Laws.{IsLowest, checked_in_range, fraction_in_range, fraction_lowest, plus_comm, plus_lowest, reduced_lowest, same_diff}

none_right : (a b : Rat) → IsLowest a → b.num ≡ pos 0 → plus a b ≡ a
none_right a b l e =
    let p : positive_part b.num ≡ 0 = ap positive_part e in
    let m : negative_part b.num ≡ 0 = ap negative_part e in
    let x : positive_part b.num * den a ≡ 0 * den a = ap (λ z. z * den a) p in
    let y : negative_part b.num * den a ≡ 0 * den a = ap (λ z. z * den a) m in
    let x' : positive_part b.num * den a * den a ≡ 0 * den a * den a = ap (λ z. z * den a) x in
    let y' : negative_part b.num * den a * den a ≡ 0 * den a * den a = ap (λ z. z * den a) y in
    same_diff (plus a b) a _ _ _ _ _ _ (plus_lowest a b) l (plus_diff a b) (itself a) (omega arith)

-- nothing is added
pub same_right : (a b : Rat) → IsFraction a → b.num ≡ pos 0 → ◌≡◌ {A = Result Rat Overflow} (Ok a) (checked (plus a b))
same_right a b f e = rw (none_right a b (fraction_lowest a f) e) (sym (checked_in_range a (fraction_in_range a f)))

pub same_left : (a b : Rat) → IsFraction b → a.num ≡ pos 0 → ◌≡◌ {A = Result Rat Overflow} (Ok b) (checked (plus a b))
same_left a b f e = rw (plus_comm a b) (same_right b a f e)

over_naturals : (s t pa ma pb mb d : ℕ) → s + ma + mb ≡ t + pa + pb
    → s * (d * d) + (ma * d + mb * d) * d ≡ (pa * d + pb * d) * d + t * (d * d)
over_naturals s t pa ma pb mb d h = let k : (s + ma + mb) * (d * d) ≡ (t + pa + pb) * (d * d) = ap (λ z. z * (d * d)) h in omega arith

-- over one denominator the numerators are added
over_one : (a b : Rat) → den b ≡ den a → reduced (a.num +ℤ b.num) (den a) ≡ plus a b
over_one a b e =
    same_diff (reduced (a.num +ℤ b.num) (den a)) (plus a b) _ _ _ _ _ _ (reduced_lowest _ (den a) (omega arith)) (plus_lowest a b) (reduced_diff (a.num +ℤ b.num) (den a) (omega arith)) (plus_diff a b)
    (rw e (over_naturals _ _ (positive_part a.num) (negative_part a.num) (positive_part b.num) (negative_part b.num) (den a) (sum_parts a.num b.num)))

-- the same, by the parts that the code keeps
pub over_one_is : (a b : Rat) (m n x y : ℤ) (d : ℕ) (r : Result Rat Overflow) → by_parts m d ≡ a → by_parts n d ≡ b
    → 0 < d → x ≡ m → y ≡ n → r ≡ checked (reduced (x +ℤ y) d) → r ≡ checked (plus a b)
over_one_is a b m n x y d r p q h e f g =
    let k : d - 1 + 1 ≡ d = omega arith in
    let s : reduced (m +ℤ n) d ≡ plus (by_parts m d) (by_parts n d) = rw k at (over_one (by_parts m d) (by_parts n d) refl) in
    rw (g, e, f, ← p, ← q) (ap checked s)
