-- What is rounded down is the greatest whole number below, and what is rounded up the least above.
use Rattle.std.proofs.Common.{◌≡◌, ℕ, ◌+◌, ◌*◌, ◌/◌, ◌%◌, ◌<◌, ◌≤◌, ap, arith, ℤ, pos, negsuc}
use Rattle.std.specs.Prelude.{◌+ℤ◌, ◌-ℤ◌, neg_ℤ}
use Rattle.cga_fraction.specs.Rat.{Rat, den, of_int}
use Rattle.cga_fraction.specs.Arithmetic.{negated}
use Rattle.cga_fraction.specs.Rounding.{IsFloor, IsCeil, floor_of, ceil_of, floor_div}
use Rattle.cga_fraction.proofs.Order.{le_test, lt_test, le_fact, lt_fact, neg_parts}
use Rattle.cga_fraction.proofs.Diffs.{sum_parts, sub_parts}

floor_at : (n : ℤ) (x : ℕ) → IsFloor (record { num = n; above = x }) (floor_div n (x + 1))
floor_at (pos n) x =
    let q : (x + 1) * (n / (x + 1)) + n % (x + 1) ≡ n = omega arith in
    let r : n % (x + 1) < x + 1 = omega arith in
    record {
      below = le_test (of_int (pos (n / (x + 1)))) (record { num = pos n; above = x }) (omega arith);
      greatest = lt_test (record { num = pos n; above = x }) (of_int (pos (n / (x + 1) + 1))) (omega arith);
    }
floor_at (negsuc n) x =
    let q : (x + 1) * (n / (x + 1)) + n % (x + 1) ≡ n = omega arith in
    let r : n % (x + 1) < x + 1 = omega arith in
    let s = sum_parts (negsuc (n / (x + 1))) (pos 1) in
    let t = ap (λ z. z * (x + 1)) s in
    record {
      below = le_test (of_int (negsuc (n / (x + 1)))) (record { num = negsuc n; above = x }) (omega arith);
      greatest = lt_test (record { num = negsuc n; above = x }) (of_int (negsuc (n / (x + 1)) +ℤ pos 1)) (omega (arith, t));
    }

pub is_floor : (a : Rat) → IsFloor a (floor_of a)
unfolding floor_of
is_floor a = floor_at a.num a.above

turn_le : (p m d u v : ℕ) → u * d + p * 1 ≤ m * 1 + v * d → p * 1 + u * d ≤ v * d + m * 1
turn_le p m d u v h = omega arith

-- a number rounded up is the least whole number that is at least it
pub is_ceil : (a : Rat) → IsCeil a (ceil_of a)
is_ceil a =
    let f = is_floor (negated a) in
    let n = neg_parts a.num in
    let z = neg_parts (floor_of (negated a)) in
    let l = le_fact (of_int (floor_of (negated a))) (negated a) f.below in
    let g = lt_fact (negated a) (of_int (floor_of (negated a) +ℤ pos 1)) f.greatest in
    let s = sum_parts (floor_of (negated a)) (pos 1) in
    let t = sub_parts (neg_ℤ (floor_of (negated a))) (pos 1) in
    let s' = ap (λ w. w * den a) s in
    let t' = ap (λ w. w * den a) t in
    let z0 = ap (λ w. w * den a) z.0 in
    let z1 = ap (λ w. w * den a) z.1 in
    record {
      above = le_test a (of_int (ceil_of a)) (omega (arith, l, n.0, n.1, z0, z1));
      least = lt_test (of_int (ceil_of a -ℤ pos 1)) a (omega (arith, g, n.0, n.1, z0, z1, s', t'));
    }

pub floor_is : (a : Rat) (z : ℤ) → z ≡ floor_of a → IsFloor a z
floor_is a z e = rw e (is_floor a)

pub ceil_is : (a : Rat) (z : ℤ) → z ≡ ceil_of a → IsCeil a z
ceil_is a z e = rw e (is_ceil a)
