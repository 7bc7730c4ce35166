-- Points of a scope lie in its box.
use Rattle.std.proofs.Common.{Bool, true, false}
use Rattle.std.specs.Prelude.{IsTrue}
use Rattle.cga_fraction.specs.Rat.{Rat, zero_rat}
use Rattle.cga_fraction.specs.Arithmetic.{plus, minus}
use Rattle.cga_fraction.specs.Order.{rat_le, rat_min, rat_max}
use Rattle.cga_fraction.proofs.Door.{IsLowest, fraction_lowest, le_trans, max_above, min_below, minus-zero, minus_le, plus-zero, plus_le}
use Rattle.cga_word.specs.declared.axis.Axis.{Axis}
use Rattle.cga_word.specs.declared.axis.Axis.TheVariants.{X, Y, Z}
use Rattle.cga_frame.specs.Points.{coordinate}
use Rattle.cga_frame.specs.Scope.{Scope, moved, world_point, Exists}
use Rattle.cga_frame.specs.Box.{box_of}
use Rattle.cga_frame.specs.Meeting.{IsBetween, IsIn}
use Rattle.cga_frame.specs.Inside.{IsUpTo, IsLocal}
use Rattle.cga_frame.specs.declared.point.Point.{Point}

-- what is moved by at most the size lies between the two ends
between_at : (g : Bool) (p a size : Rat) → IsLowest p → IsUpTo a size
    → IsBetween (moved g p a) (rat_min p (moved g p size)) (rat_max p (moved g p size))
between_at false p a size l h =
    let low : IsTrue (rat_le p (plus p a)) = rw plus-zero at (plus_le p zero_rat a h.from) in
    let below = min_below p (plus p size) in
    let above = max_above p (plus p size) in
    record {
      from = le_trans (rat_min p (plus p size)) p (plus p a) below.0 low;
      to = le_trans (plus p a) (plus p size) (rat_max p (plus p size)) (plus_le p a size h.to) above.1;
    }
between_at true p a size l h =
    let high : IsTrue (rat_le (minus p a) p) = rw minus-zero at (minus_le p zero_rat a h.from) in
    let below = min_below p (minus p size) in
    let above = max_above p (minus p size) in
    record {
      from = le_trans (rat_min p (minus p size)) (minus p size) (minus p a) below.1 (minus_le p a size h.to);
      to = le_trans (minus p a) p (rat_max p (minus p size)) high above.0;
    }

local_at : (local size : Point) → IsLocal local size → (a : Axis) → IsUpTo (coordinate local a) (coordinate size a)
local_at local size h X = h.x
local_at local size h Y = h.y
local_at local size h Z = h.z

pub inside : (s : Scope) (local : Point) → Exists s → IsLocal local s.size
    → IsIn (world_point s.at s.frame local) (box_of s)
unfolding world_point
inside s local e h = record {
  x = between_at s.frame.x.against s.at.x (coordinate local s.frame.x.axis) (coordinate s.size s.frame.x.axis) (fraction_lowest s.at.x e.at.x) (local_at local s.size h s.frame.x.axis);
  y = between_at s.frame.y.against s.at.y (coordinate local s.frame.y.axis) (coordinate s.size s.frame.y.axis) (fraction_lowest s.at.y e.at.y) (local_at local s.size h s.frame.y.axis);
  z = between_at s.frame.z.against s.at.z (coordinate local s.frame.z.axis) (coordinate s.size s.frame.z.axis) (fraction_lowest s.at.z e.at.z) (local_at local s.size h s.frame.z.axis);
}
