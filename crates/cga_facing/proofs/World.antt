-- The same in the world: a frame that is right-handed leaves each side as it is.
use Rattle.std.proofs.Common.{◌≡◌, ℕ, ◌+◌, ◌*◌, Bool, true, false, Some, arith}
use Rattle.cga_fraction.specs.Rat.{Rat, den}
use Rattle.cga_fraction.specs.Arithmetic.{minus}
use Rattle.cga_fraction.specs.Order.{positive_part, negative_part}
use Rattle.cga_fraction.proofs.Door.{IsRatio, itself, minus_of, plus_of}
use Rattle.cga_word.specs.declared.axis.Axis.{Axis}
use Rattle.cga_word.specs.declared.axis.Axis.TheVariants.{X, Y, Z}
use Rattle.cga_frame.specs.Axes.{Frame, IsFrame, differ, parity}
use Rattle.cga_frame.specs.Points.{coordinate}
use Rattle.cga_frame.specs.Scope.{moved, world_point}
use Rattle.cga_frame.specs.declared.point.Point.{Point}
use Rattle.cga_frame.specs.declared.signed.Signed.{Signed}
use Rattle.cga_facing.specs.Facing.{side_of, way}
use Rattle.cga_facing.proofs.Products.{Shows, minus_shows, ratio_shows, shown, shown_over}
use Rattle.cga_facing.proofs.Sides.{Is, IsOver, IsWay, Pair, Way, Whole, before, behind, det_down, det_up, determinant_shows, product}

abbrev component : Whole → Axis → ℕ
component w X = w.x
component w Y = w.y
component w Z = w.z

-- along an axis, the other way where the flag says so
abbrev along : Bool → Axis → Whole → Whole → Pair
along false axis a b = record { up = component b axis; down = component a axis }
along true axis a b = record { up = component a axis; down = component b axis }

-- the way between two points, in a world whose axes lie so
abbrev turned_way : Axis → Axis → Axis → Bool → Bool → Bool → Whole → Whole → Way
turned_way i j k f g h a b = record { x = along f i a b; y = along g j a b; z = along h k a b }

turned : (i j k : Axis) (f g h : Bool) → parity i j k ≡ Some (differ f (differ g h)) → (l m n o : Whole)
    → det_up (turned_way i j k f g h l m) (turned_way i j k f g h l n) (turned_way i j k f g h l o)
    + behind product l m n o
    ≡ before product l m n o
    + det_down (turned_way i j k f g h l m) (turned_way i j k f g h l n) (turned_way i j k f g h l o)
turned X Y Z false false false e l m n o = omega arith
turned X Y Z false true true e l m n o = omega arith
turned X Y Z true false true e l m n o = omega arith
turned X Y Z true true false e l m n o = omega arith
turned Y Z X false false false e l m n o = omega arith
turned Y Z X false true true e l m n o = omega arith
turned Y Z X true false true e l m n o = omega arith
turned Y Z X true true false e l m n o = omega arith
turned Z X Y false false false e l m n o = omega arith
turned Z X Y false true true e l m n o = omega arith
turned Z X Y true false true e l m n o = omega arith
turned Z X Y true true false e l m n o = omega arith
turned X Z Y false false true e l m n o = omega arith
turned X Z Y false true false e l m n o = omega arith
turned X Z Y true false false e l m n o = omega arith
turned X Z Y true true true e l m n o = omega arith
turned Y X Z false false true e l m n o = omega arith
turned Y X Z false true false e l m n o = omega arith
turned Y X Z true false false e l m n o = omega arith
turned Y X Z true true true e l m n o = omega arith
turned Z Y X false false true e l m n o = omega arith
turned Z Y X false true false e l m n o = omega arith
turned Z Y X true false false e l m n o = omega arith
turned Z Y X true true true e l m n o = omega arith
turned i j k f g h e l m n o = absurd (cc)

coordinate_is : (d : ℕ) (p : Point) (w : Whole) (axis : Axis) → IsOver d p w
    → IsRatio (coordinate p axis) (component w axis) d
coordinate_is d p w X is = is.x
coordinate_is d p w Y is = is.y
coordinate_is d p w Z is = is.z

-- the point that two coordinates were moved from doesn't matter
moved_is : (f : Bool) (axis : Axis) (at x y : Rat) (l m : Whole) (d : ℕ) → IsRatio x (component l axis) d
    → IsRatio y (component m axis) d → Is d (minus (moved f at y) (moved f at x)) (along f axis l m)
moved_is false axis at x y l m d r s =
    let p = itself at in
    let u = positive_part at.num in
    let v = negative_part at.num in
    let fx = ratio_shows x (component l axis) d r in
    let fy = ratio_shows y (component m axis) d s in
    let a = plus_of at x u v (den at) (component l axis) 0 d p (record { positive = fx.positive; same = fx.same }) in
    let b = plus_of at y u v (den at) (component m axis) 0 d p (record { positive = fy.positive; same = fy.same }) in
    let w = minus_shows _ _ _ _ _ _ (den at * d) (record { positive = b.positive; same = b.same }) (record { positive = a.positive; same = a.same }) in
    shown _ _ _ (den at * d) (component m axis) (component l axis) d w (omega arith) r.positive
moved_is true axis at x y l m d r s =
    let p = itself at in
    let u = positive_part at.num in
    let v = negative_part at.num in
    let fx = ratio_shows x (component l axis) d r in
    let fy = ratio_shows y (component m axis) d s in
    let a = minus_of at x u v (den at) (component l axis) 0 d p (record { positive = fx.positive; same = fx.same }) in
    let b = minus_of at y u v (den at) (component m axis) 0 d p (record { positive = fy.positive; same = fy.same }) in
    let w = minus_shows _ _ _ _ _ _ (den at * d) (record { positive = b.positive; same = b.same }) (record { positive = a.positive; same = a.same }) in
    shown _ _ _ (den at * d) (component l axis) (component m axis) d w (omega arith) r.positive

module _ (d : ℕ) (at : Point) (f : Frame) where
  entry : (s : Signed) (from : Rat) (a b : Point) (l m : Whole) → IsOver d a l → IsOver d b m
      → Is d (minus (moved s.against from (coordinate b s.axis)) (moved s.against from (coordinate a s.axis)))
      (along s.against s.axis l m)
  entry s from a b l m p q =
      moved_is s.against s.axis from (coordinate a s.axis) (coordinate b s.axis) l m d (coordinate_is d a l s.axis p) (coordinate_is d b m s.axis q)

  abbrev way_in : Whole → Whole → Way
  way_in = turned_way f.x.axis f.y.axis f.z.axis f.x.against f.y.against f.z.against

  way_is : (a b : Point) (l m : Whole) → IsOver d a l → IsOver d b m
      → IsWay d (way (world_point at f a) (world_point at f b)) (way_in l m)
  unfolding world_point
  way_is a b l m p q = record {
    x = entry f.x at.x a b l m p q;
    y = entry f.y at.y a b l m p q;
    z = entry f.z at.z a b l m p q;
  }

  pub placed_shows : IsFrame f → (a b c v : Point) (l m n o : Whole) → IsOver d a l → IsOver d b m → IsOver d c n
      → IsOver d v o
      → Shows (side_of (world_point at f a) (world_point at f b) (world_point at f c) (world_point at f v))
      (before product l m n o)
      (behind product l m n o) (d * (d * d))
  placed_shows is a b c v l m n o p q r s =
      shown_over _ _ _ (before product l m n o) (behind product l m n o) (d * (d * d))
      (determinant_shows d _ _ _ _ _ _ (way_is a b l m p q) (way_is a c l n p r) (way_is a v l o p s))
      (turned f.x.axis f.y.axis f.z.axis f.x.against f.y.against f.z.against is.even l m n o)
