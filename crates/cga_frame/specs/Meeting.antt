-- Meeting, holding and touching, by points.
use Rattle.std.specs.Prelude.{◌≡◌, IsTrue, true, ◌⊎◌}
use Rattle.cga_fraction.specs.Rat.{Rat}
use Rattle.cga_fraction.specs.Order.{rat_le, rat_lt}
use Rattle.cga_frame.specs.Box.{Box, holds}
use Rattle.cga_frame.specs.declared.point.Point.{Point}

-- x lies in the closed interval
pub record IsBetween (x low high : Rat) : Type 0 where
  pub from : IsTrue (rat_le low x)
  pub to : IsTrue (rat_le x high)

-- x lies strictly between the ends
pub record IsStrictlyBetween (x low high : Rat) : Type 0 where
  pub from : IsTrue (rat_lt low x)
  pub to : IsTrue (rat_lt x high)

-- x is the interval's only point
pub record IsOnlyPoint (x low high : Rat) : Type 0 where
  pub flat : IsTrue (rat_le high low)
  pub within : IsBetween x low high

-- x lies in the relative interior: strictly between the ends, or it is the one point of a flat interval
abbrev pub IsInside : Rat → Rat → Rat → Type 0
IsInside x low high = IsStrictlyBetween x low high ⊎ IsOnlyPoint x low high

-- the point lies in the closed box
pub record IsIn (p : Point) (b : Box) : Type 0 where
  pub x : IsBetween p.x b.low.x b.high.x
  pub y : IsBetween p.y b.low.y b.high.y
  pub z : IsBetween p.z b.low.z b.high.z

-- the point lies in the relative interior on each axis
pub record IsDeepIn (p : Point) (b : Box) : Type 0 where
  pub x : IsInside p.x b.low.x b.high.x
  pub y : IsInside p.y b.low.y b.high.y
  pub z : IsInside p.z b.low.z b.high.z

-- some point lies in the relative interiors of both on each axis
pub record Meets (a b : Box) : Type 0 where
  pub point : Point
  pub first : IsDeepIn point a
  pub second : IsDeepIn point b

-- each point of the second lies in the first
abbrev pub Holds : Box → Box → Type 0
Holds a b = (p : Point) → IsIn p b → IsIn p a

-- the closed boxes share a point
pub record Touches (a b : Box) : Type 0 where
  pub point : Point
  pub first : IsIn point a
  pub second : IsIn point b

-- the hull holds both boxes, and every box that holds both holds it
pub record IsHull (a b h : Box) : Type 0 where
  pub first : holds h a ≡ true
  pub second : holds h b ≡ true
  pub least : (c : Box) → holds c a ≡ true → holds c b ≡ true → holds c h ≡ true
