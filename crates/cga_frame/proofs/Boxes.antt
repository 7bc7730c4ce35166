-- Boxes by their bounds and by their points.
use Rattle.std.proofs.Common.{◌≡◌, true}
use Rattle.std.specs.Prelude.{IsTrue}
use Rattle.cga_fraction.specs.Rat.{Rat}
use Rattle.cga_fraction.specs.Order.{rat_le}
use Rattle.cga_fraction.proofs.Door.{le_refl}
use Rattle.cga_frame.specs.Points.{point_min, point_max}
use Rattle.cga_frame.specs.Box.{Box, box_of, is_box, meets, holds, touches, hull, along_meets, along_holds, along_touches}
use Rattle.cga_frame.specs.Meeting.{IsBetween, Meets, Holds, Touches, IsHull}
use Rattle.cga_frame.specs.declared.point.Point.{Point}
use Rattle.cga_frame.proofs.Flags.{told, tells, pair, three, all_three}
use Rattle.cga_frame.proofs.Intervals.{holds_at, holds_from, holds_chain, touches_at, touches_from, meets_at}
use Rattle.cga_frame.proofs.Intervals.{meets_from, meets_touches_at, touches_up_at, hull_first, hull_second}
use Rattle.cga_frame.proofs.Intervals.{hull_least, hull_ordered, ordered_at}
use Rattle.cga_frame.specs.Scope.{Scope, far_of}

sides : (b : Box) → is_box b ≡ true
    → IsTrue (rat_le b.low.x b.high.x) × IsTrue (rat_le b.low.y b.high.y) × IsTrue (rat_le b.low.z b.high.z)
sides b e = let t = three (rat_le b.low.x b.high.x) (rat_le b.low.y b.high.y) (rat_le b.low.z b.high.z) e in (told _ t.0, told _ t.1, told _ t.2)

itself : (l h : Rat) → along_holds l h l h ≡ true
itself l h = pair (rat_le l l) (rat_le h h) (tells _ (le_refl l)) (tells _ (le_refl h))

start : (l h : Rat) → IsTrue (rat_le l h) → IsBetween l l h
start l h e = record { from = le_refl l; to = e }

-- ---- holding

holds_parts : (a b : Box) → holds a b ≡ true
    → (along_holds a.low.x a.high.x b.low.x b.high.x ≡ true) × (along_holds a.low.y a.high.y b.low.y b.high.y ≡ true)
    × (along_holds a.low.z a.high.z b.low.z b.high.z ≡ true)
unfolding holds
holds_parts a b e = three _ _ _ e

holds_all : (a b : Box) → along_holds a.low.x a.high.x b.low.x b.high.x ≡ true
    → along_holds a.low.y a.high.y b.low.y b.high.y ≡ true → along_holds a.low.z a.high.z b.low.z b.high.z ≡ true
    → holds a b ≡ true
unfolding holds
holds_all a b e f g = all_three _ _ _ e f g

-- where a box holds another by their bounds, each point of the other lies in it
pub holds_points : (a b : Box) → holds a b ≡ true → Holds a b
holds_points a b e p i =
    let h = holds_parts a b e in
    record { x = holds_at p.x _ _ _ _ h.0 i.x; y = holds_at p.y _ _ _ _ h.1 i.y; z = holds_at p.z _ _ _ _ h.2 i.z }

pub points_hold : (a b : Box) → is_box b ≡ true → Holds a b → holds a b ≡ true
points_hold a b e h =
    let s = sides b e in
    let low = h b.low (record { x = record { from = le_refl b.low.x; to = s.0 }; y = record { from = le_refl b.low.y; to = s.1 }; z = record { from = le_refl b.low.z; to = s.2 } }) in
    let high = h b.high (record { x = record { from = s.0; to = le_refl b.high.x }; y = record { from = s.1; to = le_refl b.high.y }; z = record { from = s.2; to = le_refl b.high.z } }) in
    holds_all a b (holds_from _ _ _ _ low.x high.x) (holds_from _ _ _ _ low.y high.y) (holds_from _ _ _ _ low.z high.z)

-- where a box holds a second and that a third, the first holds the third
pub holds_trans : (a b c : Box) → holds a b ≡ true → holds b c ≡ true → holds a c ≡ true
holds_trans a b c e f =
    let p = holds_parts a b e in
    let q = holds_parts b c f in
    holds_all a c (holds_chain _ _ _ _ _ _ p.0 q.0) (holds_chain _ _ _ _ _ _ p.1 q.1) (holds_chain _ _ _ _ _ _ p.2 q.2)

-- a box holds itself
pub holds_itself : (a : Box) → holds a a ≡ true
holds_itself a = holds_all a a (itself a.low.x a.high.x) (itself a.low.y a.high.y) (itself a.low.z a.high.z)

-- ---- touching

touches_parts : (a b : Box) → touches a b ≡ true
    → (along_touches a.low.x a.high.x b.low.x b.high.x ≡ true)
    × (along_touches a.low.y a.high.y b.low.y b.high.y ≡ true)
    × (along_touches a.low.z a.high.z b.low.z b.high.z ≡ true)
unfolding touches
touches_parts a b e = three _ _ _ e

touches_all : (a b : Box) → along_touches a.low.x a.high.x b.low.x b.high.x ≡ true
    → along_touches a.low.y a.high.y b.low.y b.high.y ≡ true → along_touches a.low.z a.high.z b.low.z b.high.z ≡ true
    → touches a b ≡ true
unfolding touches
touches_all a b e f g = all_three _ _ _ e f g

-- where two boxes of ordered bounds touch by these, they share a point
pub touches_points : (a b : Box) → is_box a ≡ true → is_box b ≡ true → touches a b ≡ true → Touches a b
touches_points a b p q e =
    let s = sides a p in
    let t = sides b q in
    let h = touches_parts a b e in
    let x = touches_at a.low.x a.high.x b.low.x b.high.x s.0 t.0 h.0 in
    let y = touches_at a.low.y a.high.y b.low.y b.high.y s.1 t.1 h.1 in
    let z = touches_at a.low.z a.high.z b.low.z b.high.z s.2 t.2 h.2 in
    record { point = point_max a.low b.low; first = record { x = x.0; y = y.0; z = z.0 }; second = record { x = x.1; y = y.1; z = z.1 } }

-- where two boxes share a point, they touch by their bounds
pub points_touch : (a b : Box) → Touches a b → touches a b ≡ true
points_touch a b t = touches_all a b (touches_from t.point.x _ _ _ _ t.first.x t.second.x) (touches_from t.point.y _ _ _ _ t.first.y t.second.y) (touches_from t.point.z _ _ _ _ t.first.z t.second.z)

-- where a box touches another, each box that holds it does
pub touches_up : (a b q : Box) → holds b a ≡ true → touches a q ≡ true → touches b q ≡ true
touches_up a b q e f =
    let h = holds_parts b a e in
    let t = touches_parts a q f in
    touches_all b q (touches_up_at _ _ _ _ _ _ h.0 t.0) (touches_up_at _ _ _ _ _ _ h.1 t.1) (touches_up_at _ _ _ _ _ _ h.2 t.2)

-- ---- meeting

meets_parts : (a b : Box) → meets a b ≡ true
    → (along_meets a.low.x a.high.x b.low.x b.high.x ≡ true) × (along_meets a.low.y a.high.y b.low.y b.high.y ≡ true)
    × (along_meets a.low.z a.high.z b.low.z b.high.z ≡ true)
unfolding meets
meets_parts a b e = three _ _ _ e

meets_all : (a b : Box) → along_meets a.low.x a.high.x b.low.x b.high.x ≡ true
    → along_meets a.low.y a.high.y b.low.y b.high.y ≡ true → along_meets a.low.z a.high.z b.low.z b.high.z ≡ true
    → meets a b ≡ true
unfolding meets
meets_all a b e f g = all_three _ _ _ e f g

pub meets_points : (a b : Box) → is_box a ≡ true → is_box b ≡ true → meets a b ≡ true → Meets a b
meets_points a b p q e =
    let s = sides a p in
    let t = sides b q in
    let h = meets_parts a b e in
    let x = meets_at a.low.x a.high.x b.low.x b.high.x s.0 t.0 h.0 in
    let y = meets_at a.low.y a.high.y b.low.y b.high.y s.1 t.1 h.1 in
    let z = meets_at a.low.z a.high.z b.low.z b.high.z s.2 t.2 h.2 in
    record { point = record { x = x.point; y = y.point; z = z.point }; first = record { x = x.first; y = y.first; z = z.first }; second = record { x = x.second; y = y.second; z = z.second } }

pub points_meet : (a b : Box) → Meets a b → meets a b ≡ true
points_meet a b m = meets_all a b (meets_from m.point.x _ _ _ _ m.first.x m.second.x) (meets_from m.point.y _ _ _ _ m.first.y m.second.y) (meets_from m.point.z _ _ _ _ m.first.z m.second.z)

-- where a box of ordered bounds meets another, it touches it
pub meets_touches : (a b : Box) → is_box a ≡ true → meets a b ≡ true → touches a b ≡ true
meets_touches a b p e =
    let s = sides a p in
    let h = meets_parts a b e in
    touches_all a b (meets_touches_at _ _ _ _ s.0 h.0) (meets_touches_at _ _ _ _ s.1 h.1) (meets_touches_at _ _ _ _ s.2 h.2)

-- a box of ordered bounds touches itself
pub touches_itself : (a : Box) → is_box a ≡ true → touches a a ≡ true
touches_itself a p =
    let s = sides a p in
    touches_all a a (touches_from a.low.x _ _ _ _ (start a.low.x a.high.x s.0) (start a.low.x a.high.x s.0))
    (touches_from a.low.y _ _ _ _ (start a.low.y a.high.y s.1) (start a.low.y a.high.y s.1))
    (touches_from a.low.z _ _ _ _ (start a.low.z a.high.z s.2) (start a.low.z a.high.z s.2))

-- ---- hulls

hull_in : (c a b : Box) → holds c a ≡ true → holds c b ≡ true
    → holds c (record { low = point_min a.low b.low; high = point_max a.high b.high }) ≡ true
hull_in c a b e f =
    let p = holds_parts c a e in
    let q = holds_parts c b f in
    holds_all c _ (hull_least _ _ _ _ _ _ p.0 q.0) (hull_least _ _ _ _ _ _ p.1 q.1) (hull_least _ _ _ _ _ _ p.2 q.2)

-- the hull of two boxes holds both, and each box that holds both holds it
pub is_hull : (a b : Box) → IsHull a b (hull a b)
unfolding hull
is_hull a b = record {
  first = holds_all _ a (hull_first _ _ _ _) (hull_first _ _ _ _) (hull_first _ _ _ _);
  second = holds_all _ b (hull_second _ _ _ _) (hull_second _ _ _ _) (hull_second _ _ _ _);
  least = λ c e f. hull_in c a b e f;
}

pub hull_is_box : (a b : Box) → is_box a ≡ true
    → is_box (record { low = point_min a.low b.low; high = point_max a.high b.high }) ≡ true
hull_is_box a b p =
    let t = three (rat_le a.low.x a.high.x) (rat_le a.low.y a.high.y) (rat_le a.low.z a.high.z) p in
    all_three _ _ _ (hull_ordered a.low.x a.high.x b.low.x b.high.x t.0) (hull_ordered a.low.y a.high.y b.low.y b.high.y t.1) (hull_ordered a.low.z a.high.z b.low.z b.high.z t.2)

-- the least and the greatest coordinates of two points are bounds of a box, in order
pub corners_box : (p q : Point) → is_box (record { low = point_min p q; high = point_max p q }) ≡ true
corners_box p q = all_three _ _ _ (ordered_at p.x q.x) (ordered_at p.y q.y) (ordered_at p.z q.z)

pub hull_is : (a b : Box) → IsHull a b (record { low = point_min a.low b.low; high = point_max a.high b.high })
unfolding hull
hull_is a b = is_hull a b

-- the box of a scope is one
pub box_of_boxed : (s : Scope) → is_box (box_of s) ≡ true
box_of_boxed s = corners_box s.at (far_of s)
