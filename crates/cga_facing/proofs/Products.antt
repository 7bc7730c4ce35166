-- Numbers that are each shown as a difference of naturals over a natural: what their differences and products are.
use Rattle.std.proofs.Common.{◌≡◌, ℕ, ◌+◌, ◌*◌, ◌<◌, arith, ap}
use Rattle.std.proofs.Math.Nat.{mul-pos}
use Rattle.cga_fraction.specs.Rat.{Rat, den}
use Rattle.cga_fraction.specs.Arithmetic.{minus, times}
use Rattle.cga_fraction.specs.Order.{positive_part, negative_part}
use Rattle.cga_fraction.proofs.Door.{IsRatio, cross_trans, minus_of, times_diff}

-- q is (u - v) / d
pub record Shows (q : Rat) (u v d : ℕ) : Type 0 where
  pub positive : 0 < d
  pub same : positive_part q.num * d + v * den q ≡ u * den q + negative_part q.num * d

-- the same number by other naturals
pub shown : (q : Rat) (u v d w x e : ℕ) → Shows q u v d → u * e + x * d ≡ w * d + v * e → 0 < e → Shows q w x e
shown q u v d w x e r k h = record { positive = h; same = cross_trans (positive_part q.num) (negative_part q.num) (den q) u v d w x e r.positive r.same k }

over : (u v w x d : ℕ) → u + x ≡ w + v → u * d + x * d ≡ w * d + v * d
over u v w x d h = let k : (u + x) * d ≡ (w + v) * d = ap (λ z. z * d) h in omega arith

-- over the same denominator
pub shown_over : (q : Rat) (u v w x d : ℕ) → Shows q u v d → u + x ≡ w + v → Shows q w x d
shown_over q u v w x d r h = shown q u v d w x d r (over u v w x d h) r.positive

pub ratio_shows : (q : Rat) (n d : ℕ) → IsRatio q n d → Shows q n 0 d
ratio_shows q n d r = record { positive = r.positive; same = rw r.is (let k = r.same in omega arith) }

pub minus_shows : (a b : Rat) (u v w x d : ℕ) → Shows a u v d → Shows b w x d → Shows (minus a b) (u + x) (v + w) d
minus_shows a b u v w x d r s =
    let m = minus_of a b u v d w x d (record { positive = r.positive; same = r.same }) (record { positive = s.positive; same = s.same }) in
    shown (minus a b) (u * d + x * d) (v * d + w * d) (d * d) (u + x) (v + w) d (record { positive = m.positive; same = m.same }) (omega arith) r.positive

multiplied : (p m q s t r u v d w x e : ℕ) → p * d + v * q ≡ u * q + m * d → s * e + x * r ≡ w * r + t * e
    → (p * s + m * t) * (d * e) + (u * x + v * w) * (q * r) ≡ (u * w + v * x) * (q * r) + (p * t + m * s) * (d * e)
multiplied p m q s t r u v d w x e f g =
    let a : (p * d + v * q) * (s * e) ≡ (u * q + m * d) * (s * e) = ap (λ z. z * (s * e)) f in
    let b : (p * d + v * q) * (t * e) ≡ (u * q + m * d) * (t * e) = ap (λ z. z * (t * e)) f in
    let c : (s * e + x * r) * (u * q) ≡ (w * r + t * e) * (u * q) = ap (λ z. z * (u * q)) g in
    let k : (s * e + x * r) * (v * q) ≡ (w * r + t * e) * (v * q) = ap (λ z. z * (v * q)) g in
    omega arith

pub times_shows : (a b : Rat) (u v d w x e : ℕ) → Shows a u v d → Shows b w x e
    → Shows (times a b) (u * w + v * x) (u * x + v * w) (d * e)
times_shows a b u v d w x e r s =
    let m = times_diff a b in
    shown (times a b) _ _ (den a * den b) (u * w + v * x) (u * x + v * w) (d * e) (record { positive = m.positive; same = m.same })
    (multiplied (positive_part a.num) (negative_part a.num) (den a) (positive_part b.num) (negative_part b.num) (den b) u v d w x e r.same s.same) (mul-pos r.positive s.positive)
