-- On which side of a plane a point lies, by naturals: all coordinates are over one denominator.
use Rattle.std.proofs.Common.{◌≡◌, ℕ, ◌+◌, ◌*◌, ◌<◌, true, arith}
use Rattle.cga_fraction.specs.Rat.{Rat, zero_rat}
use Rattle.cga_fraction.specs.Arithmetic.{minus}
use Rattle.cga_fraction.specs.Order.{rat_lt}
use Rattle.cga_fraction.proofs.Door.{IsRatio, gcd-one, lt_diff, minus_lowest, of_int_diff, same_diff}
use Rattle.cga_frame.specs.declared.point.Point.{Point}
use Rattle.cga_facing.specs.Facing.{determinant, minor, side_of, way}
use Rattle.cga_facing.proofs.Products.{Shows, shown_over, ratio_shows, minus_shows, times_shows}

-- a point of whole coordinates
pub record Whole : Type 0 where
  pub x : ℕ
  pub y : ℕ
  pub z : ℕ

-- the point has these coordinates over d
pub record IsOver (d : ℕ) (p : Point) (w : Whole) : Type 0 where
  pub x : IsRatio p.x w.x d
  pub y : IsRatio p.y w.y d
  pub z : IsRatio p.z w.z d

-- the product of a coordinate of each of three points
abbrev pub product : Whole → Whole → Whole → ℕ
product p q r = p.x * q.y * r.z

module _ {X : Type 0} (product : X → X → X → ℕ) where
  -- the products by even orders of three points
  abbrev pub even : X → X → X → ℕ
  even p q r = product p q r + product q r p + product r p q

  -- what the side of v has above 0, and below it
  abbrev pub before : X → X → X → X → ℕ
  before a b c v = even b c v + even c a v + even a b v + even b a c

  abbrev pub behind : X → X → X → X → ℕ
  behind a b c v = even c b v + even a c v + even b a v + even a b c

-- a number is the first less the second, over some denominator
pub record Pair : Type 0 where
  pub up : ℕ
  pub down : ℕ

abbrev pub Is : ℕ → Rat → Pair → Type 0
Is d q p = Shows q p.up p.down d

abbrev minor_up : Pair → Pair → Pair → Pair → ℕ
minor_up p q r s = p.up * s.up + p.down * s.down + (q.up * r.down + q.down * r.up)

abbrev minor_down : Pair → Pair → Pair → Pair → ℕ
minor_down p q r s = p.up * s.down + p.down * s.up + (q.up * r.up + q.down * r.down)

-- the coordinates of a way
pub record Way : Type 0 where
  pub x : Pair
  pub y : Pair
  pub z : Pair

abbrev pub det_up : Way → Way → Way → ℕ
det_up p q r =
    p.x.up * minor_up q.y q.z r.y r.z + p.x.down * minor_down q.y q.z r.y r.z
    + (p.y.up * minor_down q.x q.z r.x r.z + p.y.down * minor_up q.x q.z r.x r.z
    + (p.z.up * minor_up q.x q.y r.x r.y + p.z.down * minor_down q.x q.y r.x r.y))

abbrev pub det_down : Way → Way → Way → ℕ
det_down p q r =
    p.x.up * minor_down q.y q.z r.y r.z + p.x.down * minor_up q.y q.z r.y r.z
    + (p.y.up * minor_up q.x q.z r.x r.z + p.y.down * minor_down q.x q.z r.x r.z
    + (p.z.up * minor_down q.x q.y r.x r.y + p.z.down * minor_up q.x q.y r.x r.y))

pub record IsWay (d : ℕ) (p : Point) (w : Way) : Type 0 where
  pub x : Is d p.x w.x
  pub y : Is d p.y w.y
  pub z : Is d p.z w.z

minor_shows : (p q r s : Rat) (t u v w : Pair) (d : ℕ) → Is d p t → Is d q u → Is d r v → Is d s w
    → Shows (minor p q r s) (minor_up t u v w) (minor_down t u v w) (d * d)
minor_shows p q r s t u v w d f g h k =
    minus_shows _ _ _ _ _ _ (d * d) (times_shows p s t.up t.down d w.up w.down d f k) (times_shows q r u.up u.down d v.up v.down d g h)

pub determinant_shows : (d : ℕ) (a b c : Point) (p q r : Way) → IsWay d a p → IsWay d b q → IsWay d c r
    → Shows (determinant a b c) (det_up p q r) (det_down p q r) (d * (d * d))
determinant_shows d a b c p q r f g h =
    let yz = minor_shows _ _ _ _ q.y q.z r.y r.z d g.y g.z h.y h.z in
    let xz = minor_shows _ _ _ _ q.x q.z r.x r.z d g.x g.z h.x h.z in
    let xy = minor_shows _ _ _ _ q.x q.y r.x r.y d g.x g.y h.x h.y in
    let fx = times_shows _ _ p.x.up p.x.down d _ _ (d * d) f.x yz in
    let fy = times_shows _ _ p.y.up p.y.down d _ _ (d * d) f.y xz in
    let fz = times_shows _ _ p.z.up p.z.down d _ _ (d * d) f.z xy in
    minus_shows _ _ _ _ _ _ (d * (d * d)) fx (minus_shows _ _ _ _ _ _ (d * (d * d)) fy fz)

-- the way from the one to the other
abbrev between : Whole → Whole → Way
between a b = record {
  x = record { up = b.x; down = a.x };
  y = record { up = b.y; down = a.y };
  z = record { up = b.z; down = a.z };
}

entry : (a b : Rat) (m n d : ℕ) → IsRatio a m d → IsRatio b n d → Shows (minus b a) n m d
entry a b m n d r s =
    shown_over (minus b a) _ _ n m d (minus_shows b a n 0 m 0 d (ratio_shows b n d s) (ratio_shows a m d r)) (omega arith)

way_shows : (d : ℕ) (a b : Point) (l m : Whole) → IsOver d a l → IsOver d b m → IsWay d (way a b) (between l m)
way_shows d a b l m p q = record {
  x = entry a.x b.x l.x m.x d p.x q.x;
  y = entry a.y b.y l.y m.y d p.y q.y;
  z = entry a.z b.z l.z m.z d p.z q.z;
}

expanded : (l m n o : Whole)
    → det_up (between l m) (between l n) (between l o) + behind product l m n o
    ≡ before product l m n o + det_down (between l m) (between l n) (between l o)
expanded l m n o = omega arith

pub side_shows : (d : ℕ) (a b c v : Point) (l m n o : Whole) → IsOver d a l → IsOver d b m → IsOver d c n → IsOver d v o
    → Shows (side_of a b c v) (before product l m n o) (behind product l m n o) (d * (d * d))
side_shows d a b c v l m n o p q r s =
    shown_over _ _ _ (before product l m n o) (behind product l m n o) (d * (d * d))
    (determinant_shows d _ _ _ _ _ _ (way_shows d a b l m p q) (way_shows d a c l n p r) (way_shows d a v l o p s))
    (expanded l m n o)

-- in the plane, where as much is before as behind
pub in_plane : (d : ℕ) (a b c v : Point) (u w : ℕ) → Shows (side_of a b c v) u w d → u ≡ w → side_of a b c v ≡ zero_rat
in_plane d a b c v u w r e =
    let z = of_int_diff zero_rat.num in
    same_diff (side_of a b c v) zero_rat u w d 0 0 1 (minus_lowest _ _) (record { coprime = gcd-one 0 })
    (record { positive = r.positive; same = r.same }) (record { positive = z.positive; same = z.same }) (omega arith)

-- and behind it, where there is less before
pub is_behind : (d : ℕ) (a b c v : Point) (u w : ℕ) → Shows (side_of a b c v) u w d → u < w
    → rat_lt (side_of a b c v) zero_rat ≡ true
is_behind d a b c v u w r h =
    let z = of_int_diff zero_rat.num in
    lt_diff (side_of a b c v) zero_rat u w d 0 0 1 (record { positive = r.positive; same = r.same }) (record { positive = z.positive; same = z.same }) (omega arith)
