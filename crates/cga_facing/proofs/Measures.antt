-- Sizes above 0 as whole numbers over one denominator.
use Rattle.std.proofs.Common.{◌≡◌, ℕ, zero, suc, ◌+◌, ◌-◌, ◌*◌, ◌<◌, ◌≤◌, arith, false, ap, subst, Ok}
use Rattle.std.specs.Prelude.{IsTrue, ◌||◌}
use Rattle.std.proofs.Math.Nat.{mul-pos, mul-le-mul_right, le_of_mul-le-mul_right}
use Rattle.cga_fraction.specs.Rat.{Rat, den, zero_rat}
use Rattle.cga_fraction.specs.Order.{rat_le, rat_lt}
use Rattle.cga_fraction.specs.Arithmetic.{minus, divided}
use Rattle.cga_fraction.proofs.Door.{IsRatio, divided_ratio, le_ratio, like, lt_le, lt_not_le, minus_ratio}
use Rattle.cga_fraction.proofs.Door.{or_false_first, or_false_second, ratio_le, shown_ratio, whole_ratio}
use Rattle.cga_fraction.proofs.Door.{zero_ratio}
use Rattle.cga_frame.specs.declared.point.Point.{Point}
use Rattle.cga_solid.specs.Corners.{half_of, two}
use Rattle.cga_solid.specs.Faults.{within}
use Rattle.cga_solid.specs.Solids.{is_flat}
use Rattle.cga_solid.proofs.Door.{within_is}
use Rattle.cga_fraction.proofs.Door.{true_from_not}

-- a size above 0, as a ratio
pub record IsSize (a : Rat) : Type 0 where
  pub top : ℕ
  pub above : 0 < top
  pub ratio : IsRatio a top (den a)

size_is : (a : Rat) → is_flat a ≡ false → IsSize a
size_is a f =
    let l : IsTrue (rat_lt zero_rat a) = true_from_not (rat_lt zero_rat a) f in
    let r = shown_ratio a (lt_le zero_rat a l) in
    record { top = r.0; above = above_zero r.0 r.1 l; ratio = r.1 }
  where
    above_zero : (n : ℕ) → IsRatio a n (den a) → IsTrue (rat_lt zero_rat a) → 0 < n
    above_zero zero r l = absurd (lt_not_le zero_rat a l (le_ratio a zero_rat 0 (den a) 0 1 r zero_ratio (omega arith)))
    above_zero (suc n) r l = omega arith

pub half_ratio : (a m : Rat) (n d : ℕ) → half_of a ≡ Ok m → IsRatio a (n * 2) (d * 2) → IsRatio m n (d * 2)
half_ratio a m n d h r =
    let q = divided_ratio a two (n * 2) (d * 2) 2 1 r (whole_ratio 2) (omega arith) in
    subst (λ (x : Rat). IsRatio x n (d * 2)) (within_is (divided a two) m h) (like (divided a two) _ _ n (d * 2) q (omega arith) r.positive)

-- three sizes above 0, each twice a whole number over twice another
pub record Measures (x y z : Rat) : Type 0 where
  pub k : ℕ
  pub w : ℕ
  pub h : ℕ
  pub d : ℕ
  pub positive : 0 < k * 2
  pub wide : 0 < w
  pub high : 0 < h
  pub deep : 0 < d
  pub along_x : IsRatio x (w * 2) (k * 2)
  pub along_y : IsRatio y (h * 2) (k * 2)
  pub along_z : IsRatio z (d * 2) (k * 2)

measures : (x y z : Rat) → IsSize x → IsSize y → IsSize z → Measures x y z
measures x y z p q r =
    let xy : 0 < den x * den y = mul-pos p.ratio.positive q.ratio.positive in
    let xz : 0 < den x * den z = mul-pos p.ratio.positive r.ratio.positive in
    let yz : 0 < den y * den z = mul-pos q.ratio.positive r.ratio.positive in
    let all : 0 < den x * den y * den z * 2 = mul-pos (mul-pos xy r.ratio.positive) (omega arith) in
    record {
      k = den x * den y * den z;
      w = p.top * (den y * den z);
      h = q.top * (den x * den z);
      d = r.top * (den x * den y);
      positive = all;
      wide = mul-pos p.above yz;
      high = mul-pos q.above xz;
      deep = mul-pos r.above xy;
      along_x = like x _ _ _ _ p.ratio (omega arith) all;
      along_y = like y _ _ _ _ q.ratio (omega arith) all;
      along_z = like z _ _ _ _ r.ratio (omega arith) all;
    }

-- the same numerator, otherwise written
pub same : (q : Rat) (n m d : ℕ) → IsRatio q n d → n ≡ m → IsRatio q m d
same q n m d r e = subst (λ (k : ℕ). IsRatio q k d) e r

pub none : (n d : ℕ) → n ≡ 0 → 0 < d → IsRatio zero_rat n d
none n d e p = like zero_rat 0 1 n d zero_ratio (rw e (omega arith)) p

-- what a longer side has beside the half of the shorter
pub rest_is : (a b r : Rat) (n m d : ℕ) → within (minus a b) ≡ Ok r → IsRatio a (n * 2) d → IsRatio b m d → m < n
    → IsRatio r (m + 2 * (n - m)) d
rest_is a b r n m d h p q l =
    let le : m * d ≤ n * 2 * d = mul-le-mul_right d (omega arith) in
    let w = minus_ratio a b (n * 2) d m d p q (le_ratio b a m d (n * 2) d q p le) in
    let e : n ≡ m + (n - m) = omega arith in
    let f : n * 2 * d ≡ (m + (n - m)) * 2 * d = ap (λ z. z * 2 * d) e in
    let g : w.0 ≡ (m + 2 * (n - m)) * d = omega (arith, w.1, f) in
    let i : w.0 * d ≡ (m + 2 * (n - m)) * d * d = ap (λ z. z * d) g in
    subst (λ (x : Rat). IsRatio x (m + 2 * (n - m)) d) (within_is (minus a b) r h) (like (minus a b) w.0 (d * d) (m + 2 * (n - m)) d w.2 (omega (arith, i)) p.positive)

-- the order of numbers over one denominator
pub less : (a b : Rat) (n m d : ℕ) → IsRatio a n d → IsRatio b m d → IsTrue (rat_lt a b) → n < m
less a b n m d r s l =
    let k : m ≤ n → ⊥ = λ (k : m ≤ n). lt_not_le a b l (le_ratio b a m d n d s r (mul-le-mul_right d k)) in omega arith

pub at_most : (a b : Rat) (n m d : ℕ) → IsRatio a n d → IsRatio b m d → IsTrue (rat_le a b) → n ≤ m
at_most a b n m d r s l = le_of_mul-le-mul_right (ratio_le a b n d m d r s l) r.positive

pub three_sizes : (size : Point) → (is_flat size.x || is_flat size.y || is_flat size.z) ≡ false
    → Measures size.x size.y size.z
three_sizes size h =
    let two = or_false_first (is_flat size.x || is_flat size.y) (is_flat size.z) h in
    let x = size_is size.x (or_false_first (is_flat size.x) (is_flat size.y) two) in
    let y = size_is size.y (or_false_second (is_flat size.x) (is_flat size.y) two) in
    measures size.x size.y size.z x y (size_is size.z (or_false_second (is_flat size.x || is_flat size.y) (is_flat size.z) h))

pub two_sizes : (size : Point) → (is_flat size.x || is_flat size.y) ≡ false → Measures size.x size.y size.y
two_sizes size h =
    let y = size_is size.y (or_false_second (is_flat size.x) (is_flat size.y) h) in
    measures size.x size.y size.y (size_is size.x (or_false_first (is_flat size.x) (is_flat size.y) h)) y y
