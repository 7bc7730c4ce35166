-- The parts of Subdiv add up to the size.
use Rattle.std.proofs.Common.{◌≡◌, ℕ, ◌+◌, ◌*◌, ◌<◌, List, [], ◌∷◌, arith, refl, ap}
use Rattle.std.specs.Prelude.{IsTrue}
use Rattle.std.proofs.Math.Nat.{mul-pos}
use Rattle.cga_fraction.specs.Rat.{Rat, zero_rat}
use Rattle.cga_fraction.specs.Order.{rat_le}
use Rattle.cga_fraction.specs.Arithmetic.{plus, minus, times}
use Rattle.cga_split.specs.declared.part_size.PartSize.{PartSize}
use Rattle.cga_split.specs.declared.part_size.PartSize.TheVariants.{Absolute, Relative}
use Rattle.cga_split.specs.Subdiv.{absolute_sum, relative_sum, length_of, cuts_after}
use Rattle.cga_fraction.proofs.Door.{IsRatio, both, divided_ratio, le_ratio, like, minus_ratio, plus_ratio, times_ratio}
use Rattle.cga_split.proofs.Covers.{last_of, Rises}

-- each size as a ratio, and each share as the factor times q / k
abbrev pub Shares : Rat → Rat → ℕ → ℕ → List PartSize → Type 0
Shares rest total k q [] = Unit {0}
Shares rest total k q (Absolute x ∷ sizes) = (n : ℕ) × (d : ℕ) × IsRatio x n d × Shares rest total k q sizes
Shares rest total k q (Relative r ∷ sizes) = (n : ℕ) × (d : ℕ) × IsRatio r n d × IsRatio (length_of rest total (Relative r)) (q * n) (k * d) × Shares rest total k q sizes

-- the last cut is the absolute sum and its share of the relative one
record Ends (at a r : Rat) (k q : ℕ) : Type 0 where
  na : ℕ
  da : ℕ
  nr : ℕ
  dr : ℕ
  a_is : IsRatio a na da
  r_is : IsRatio r nr dr
  at_is : IsRatio at (na * k * dr + q * nr * da) (da * k * dr)

absolute_step : (na k dr q nr da n d : ℕ)
    → ((na * k * dr + q * nr * da) * d + n * (da * k * dr)) * (da * d * k * dr) ≡
    ((na * d + n * da) * k * dr + q * nr * (da * d)) * (da * k * dr * d)
absolute_step na k dr q nr da n d = omega arith

relative_step : (na k dr q nr da n d : ℕ)
    → ((na * k * dr + q * nr * da) * (k * d) + q * n * (da * k * dr)) * (da * k * (dr * d)) ≡
    (na * k * (dr * d) + q * (nr * d + n * dr) * da) * (da * k * dr * (k * d))
relative_step na k dr q nr da n d = omega arith

pos3 : (a b c : ℕ) → 0 < a → 0 < b → 0 < c → 0 < a * b * c
pos3 a b c h i j = mul-pos (mul-pos h i) j

ends : (rest total at a r : Rat) (k q : ℕ) (sizes : List PartSize) → 0 < k → Shares rest total k q sizes
    → Ends at a r k q
    → Ends (last_of at (cuts_after rest total at sizes)) (absolute_sum a sizes) (relative_sum r sizes) k q
ends rest total at a r k q [] p s e = e
ends rest total at a r k q (Absolute x ∷ sizes) p s e =
    let n = s.0 in let d = s.1 in
    let w = plus_ratio at x _ _ _ _ e.at_is s.2 in
    let v = like _ _ _ ((e.na * s.1 + s.0 * e.da) * k * e.dr + q * e.nr * (e.da * s.1)) (e.da * s.1 * k * e.dr) w
    (absolute_step e.na k e.dr q e.nr e.da s.0 s.1) (mul-pos (mul-pos (mul-pos e.a_is.positive s.2.positive) p) e.r_is.positive) in
    ends rest total (plus at x) (plus a x) r k q sizes p s.3 (record {
      na = e.na * s.1 + s.0 * e.da;
      da = e.da * s.1;
      nr = e.nr;
      dr = e.dr;
      a_is = plus_ratio a x _ _ _ _ e.a_is s.2;
      r_is = e.r_is;
      at_is = v;
    })
ends rest total at a r k q (Relative f ∷ sizes) p s e =
    let w = plus_ratio at (length_of rest total (Relative f)) _ _ _ _ e.at_is s.3 in
    let v = like _ _ _ (e.na * k * (e.dr * s.1) + q * (e.nr * s.1 + s.0 * e.dr) * e.da) (e.da * k * (e.dr * s.1)) w
    (relative_step e.na k e.dr q e.nr e.da s.0 s.1) (mul-pos (mul-pos e.a_is.positive p) (mul-pos e.r_is.positive s.2.positive)) in
    ends rest total (plus at (length_of rest total (Relative f))) a (plus r f) k q sizes p s.4 (record {
      na = e.na;
      da = e.da;
      nr = e.nr * s.1 + s.0 * e.dr;
      dr = e.dr * s.1;
      a_is = e.a_is;
      r_is = plus_ratio r f _ _ _ _ e.r_is s.2;
      at_is = v;
    })

-- what is left, shared out, and the absolute sum together are the whole
whole_step : (na da nr dr np dp nt dt nl dl kk : ℕ) → nr * dt ≡ nt * dr → kk + na * dl ≡ nl * da
    → np * (dl * da) ≡ kk * dp
    → (na * (dp * nt) * dr + (np * dt) * nr * da) * dl ≡ nl * (da * (dp * nt) * dr)
whole_step na da nr dr np dp nt dt nl dl kk e f g =
    let x : np * da * dl * (nr * dt) ≡ np * da * dl * (nt * dr) = ap (λ w. np * da * dl * w) e in
    let y : np * (dl * da) * (nt * dr) ≡ kk * dp * (nt * dr) = ap (λ w. w * (nt * dr)) g in
    let z : (kk + na * dl) * (dp * nt * dr) ≡ nl * da * (dp * nt * dr) = ap (λ w. w * (dp * nt * dr)) f in
    omega arith

-- sizes above 0 as ratios
abbrev pub AreRatios : List PartSize → Type 0
AreRatios [] = Unit {0}
AreRatios (Absolute x ∷ sizes) = (n : ℕ) × (d : ℕ) × IsRatio x n d × AreRatios sizes
AreRatios (Relative r ∷ sizes) = (n : ℕ) × (d : ℕ) × IsRatio r n d × AreRatios sizes

pub shares_of : (rest total : Rat) (np dp nt dt : ℕ) (sizes : List PartSize) → IsRatio rest np dp → IsRatio total nt dt
    → 0 < nt → AreRatios sizes → Shares rest total (dp * nt) (np * dt) sizes
shares_of rest total np dp nt dt [] r t p s = tt
shares_of rest total np dp nt dt (Absolute x ∷ sizes) r t p s = (s.0, s.1, s.2, shares_of rest total np dp nt dt sizes r t p s.3)
shares_of rest total np dp nt dt (Relative f ∷ sizes) r t p s =
    let w = divided_ratio (times rest f) total _ _ _ _ (times_ratio rest f _ _ _ _ r s.2) t p in
    let v = like _ _ _ (np * dt * s.0) (dp * nt * s.1) w (omega arith) (mul-pos (mul-pos r.positive p) s.2.positive) in
    (s.0, s.1, s.2, v, shares_of rest total np dp nt dt sizes r t p s.3)

zero_ratio : IsRatio zero_rat 0 1
zero_ratio = record { positive = omega arith; top = 0; is = refl; same = refl }

pub absolute_ratio : (a : Rat) (n d : ℕ) (sizes : List PartSize) → IsRatio a n d → AreRatios sizes
    → (m : ℕ) × (e : ℕ) × IsRatio (absolute_sum a sizes) m e
absolute_ratio a n d [] r s = (n, d, r)
absolute_ratio a n d (Absolute x ∷ sizes) r s = absolute_ratio (plus a x) _ _ sizes (plus_ratio a x _ _ _ _ r s.2) s.3
absolute_ratio a n d (Relative f ∷ sizes) r s = absolute_ratio a n d sizes r s.3

start : (k q : ℕ) → 0 < k → Ends zero_rat zero_rat zero_rat k q
start k q h = record { na = 0; da = 1; nr = 0; dr = 1; a_is = zero_ratio; r_is = zero_ratio; at_is = like zero_rat 0 1 (0 * k * 1 + q * 0 * 1) (1 * k * 1) zero_ratio (omega arith) (omega arith) }

-- where some factor is above 0, the last cut is the size
pub last_ratio : (size : Rat) (sizes : List PartSize) (nl dl nt dt : ℕ) → IsRatio size nl dl → AreRatios sizes
    → IsRatio (relative_sum zero_rat sizes) nt dt → 0 < nt → IsTrue (rat_le (absolute_sum zero_rat sizes) size)
    → IsRatio (last_of zero_rat
    (cuts_after (minus size (absolute_sum zero_rat sizes)) (relative_sum zero_rat sizes) zero_rat sizes)) nl dl
last_ratio size sizes nl dl nt dt l s t p h =
    let sum = absolute_sum zero_rat sizes in
    let total = relative_sum zero_rat sizes in
    let a = absolute_ratio zero_rat 0 1 sizes zero_ratio s in
    let m = minus_ratio size sum nl dl a.0 a.1 l a.2 h in
    let k : 0 < dl * a.1 * nt = mul-pos m.2.positive p in
    let e = ends (minus size sum) total zero_rat zero_rat zero_rat (dl * a.1 * nt) (m.0 * dt) sizes k
    (shares_of (minus size sum) total m.0 (dl * a.1) nt dt sizes m.2 t p s) (start (dl * a.1 * nt) (m.0 * dt) k) in
    let n = minus_ratio size sum nl dl e.na e.da l e.a_is h in
    let x = both total e.nr e.dr nt dt e.r_is t in
    let y = both (minus size sum) m.0 (dl * a.1) n.0 (dl * e.da) m.2 n.2 in
    like _ _ _ nl dl e.at_is (whole_step e.na e.da e.nr e.dr m.0 (dl * a.1) nt dt nl dl n.0 x n.1 y) l.positive

-- the cuts rise
plus_rises : (at x : Rat) (n d m e : ℕ) → IsRatio at n d → IsRatio x m e → IsTrue (rat_le at (plus at x))
plus_rises at x n d m e r s = le_ratio at (plus at x) n d (n * e + m * d) (d * e) r (plus_ratio at x n d m e r s) (omega arith)

pub rises : (rest total at : Rat) (n d k q : ℕ) (sizes : List PartSize) → IsRatio at n d → Shares rest total k q sizes
    → Rises at (cuts_after rest total at sizes)
rises rest total at n d k q [] r s = tt
rises rest total at n d k q (Absolute x ∷ sizes) r s =
    (plus_rises at x n d s.0 s.1 r s.2, rises rest total (plus at x) _ _ k q sizes (plus_ratio at x _ _ _ _ r s.2) s.3)
rises rest total at n d k q (Relative f ∷ sizes) r s = (
  plus_rises at (length_of rest total (Relative f)) n d _ _ r s.3,
  rises rest total
      (plus at (length_of rest total (Relative f))) _ _ k q sizes (plus_ratio at (length_of rest total (Relative f)) _ _ _ _ r s.3) s.4,
)
