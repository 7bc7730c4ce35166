-- Points of a scope, by their local coordinates.
use Rattle.std.specs.Prelude.{IsTrue}
use Rattle.cga_fraction.specs.Rat.{Rat, zero_rat}
use Rattle.cga_fraction.specs.Order.{rat_le}
use Rattle.cga_frame.specs.declared.point.Point.{Point}

-- from 0 to the size
pub record IsUpTo (a size : Rat) : Type 0 where
  pub from : IsTrue (rat_le zero_rat a)
  pub to : IsTrue (rat_le a size)

-- local coordinates of a point of the scope: each is from 0 to the size
pub record IsLocal (local size : Point) : Type 0 where
  pub x : IsUpTo local.x size.x
  pub y : IsUpTo local.y size.y
  pub z : IsUpTo local.z size.z
