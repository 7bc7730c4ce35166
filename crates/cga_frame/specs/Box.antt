-- World boxes, by their bounds.
use Rattle.std.specs.Prelude.{Bool, ◌&&◌, ◌||◌}
use Rattle.cga_fraction.specs.Rat.{Rat}
use Rattle.cga_fraction.specs.Order.{rat_le, rat_lt}
use Rattle.cga_frame.specs.Points.{point_min, point_max}
use Rattle.cga_frame.specs.Scope.{Scope, far_of}
use Rattle.cga_frame.specs.declared.point.Point.{Point}

-- a closed interval on each world axis
pub record Box : Type 0 where
  pub low : Point
  pub high : Point

-- low is at most high on each axis
abbrev pub is_box : Box → Bool
is_box b = rat_le b.low.x b.high.x && (rat_le b.low.y b.high.y && rat_le b.low.z b.high.z)

-- the box of a scope: on each world axis between the position and the position plus the signed size
abbrev pub box_of : Scope → Box
box_of s = record { low = point_min s.at (far_of s); high = point_max s.at (far_of s) }

-- two intervals, each from low to high, share a point
abbrev pub along_touches : Rat → Rat → Rat → Rat → Bool
along_touches low high lower upper = rat_le low upper && rat_le lower high

-- their relative interiors share a point: they overlap, or they are one, as where both are flat
abbrev pub along_meets : Rat → Rat → Rat → Rat → Bool
along_meets low high lower upper = (rat_lt low upper && rat_lt lower high) || ((rat_le low lower && rat_le lower low) && (rat_le high upper && rat_le upper high))

-- the second lies in the first
abbrev pub along_holds : Rat → Rat → Rat → Rat → Bool
along_holds low high lower upper = rat_le low lower && rat_le upper high

unfoldable pub touches : Box → Box → Bool
touches a b = along_touches a.low.x a.high.x b.low.x b.high.x && (along_touches a.low.y a.high.y b.low.y b.high.y && along_touches a.low.z a.high.z b.low.z b.high.z)

unfoldable pub meets : Box → Box → Bool
meets a b = along_meets a.low.x a.high.x b.low.x b.high.x && (along_meets a.low.y a.high.y b.low.y b.high.y && along_meets a.low.z a.high.z b.low.z b.high.z)

unfoldable pub holds : Box → Box → Bool
holds a b = along_holds a.low.x a.high.x b.low.x b.high.x && (along_holds a.low.y a.high.y b.low.y b.high.y && along_holds a.low.z a.high.z b.low.z b.high.z)

unfoldable pub hull : Box → Box → Box
hull a b = record { low = point_min a.low b.low; high = point_max a.high b.high }
