-- A box round many boxes.
use Rattle.std.specs.Prelude.{◌≡◌, IsTrue, List, true}
use Rattle.std.specs.List.{list_any}
use Rattle.cga_fraction.specs.Rat.{Rat}
use Rattle.cga_fraction.specs.Arithmetic.{plus}
use Rattle.cga_fraction.specs.Order.{rat_lt}
use Rattle.cga_frame.specs.Box.{Box, is_box, meets}
use Rattle.cga_frame.specs.declared.point.Point.{Point}

-- whoever meets one of the areas meets the box
abbrev pub IsAround : List Box → Box → Type 0
IsAround areas round = (own : Box) → is_box own ≡ true → list_any (meets own) areas ≡ true → meets own round ≡ true

-- each coordinate is greater by so much
abbrev pub shifted_by : Rat → Point → Point
shifted_by by p = record { x = plus p.x by; y = plus p.y by; z = plus p.z by }

-- the interval from l to h lies strictly inside
pub record IsWithin (l h low high : Rat) : Type 0 where
  pub above : IsTrue (rat_lt low l)
  pub below : IsTrue (rat_lt h high)

-- the box lies strictly inside the other on each axis
pub record IsWider (inner wide : Box) : Type 0 where
  pub x : IsWithin inner.low.x inner.high.x wide.low.x wide.high.x
  pub y : IsWithin inner.low.y inner.high.y wide.low.y wide.high.y
  pub z : IsWithin inner.low.z inner.high.z wide.low.z wide.high.z
