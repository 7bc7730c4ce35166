-- Points by their coordinates.
use Rattle.std.specs.Prelude.{ℤ, Bool, ◌&&◌, Result, Ok, Err, if◌then◌else◌}
use Rattle.cga_fraction.specs.Rat.{Rat, of_int, IsFraction}
use Rattle.cga_fraction.specs.Order.{rat_min, rat_max}
use Rattle.cga_fraction.specs.Refusals.{in_range}
use Rattle.cga_fraction.specs.declared.overflow.Overflow.{Overflow}
use Rattle.cga_word.specs.declared.axis.Axis.{Axis}
use Rattle.cga_word.specs.declared.axis.Axis.TheVariants.{X, Y, Z}
use Rattle.cga_frame.specs.declared.point.Point.{Point}

-- the point of three whole numbers
abbrev pub whole_point : ℤ → ℤ → ℤ → Point
whole_point x y z = record { x = of_int x; y = of_int y; z = of_int z }

-- the coordinate along an axis
abbrev pub coordinate : Point → Axis → Rat
coordinate p X = p.x
coordinate p Y = p.y
coordinate p Z = p.z

-- the point with another coordinate along an axis
abbrev pub with_coordinate : Point → Axis → Rat → Point
with_coordinate p X a = record p { x = a }
with_coordinate p Y a = record p { y = a }
with_coordinate p Z a = record p { z = a }

abbrev pub point_min : Point → Point → Point
point_min p q = record { x = rat_min p.x q.x; y = rat_min p.y q.y; z = rat_min p.z q.z }

abbrev pub point_max : Point → Point → Point
point_max p q = record { x = rat_max p.x q.x; y = rat_max p.y q.y; z = rat_max p.z q.z }

-- each coordinate is in lowest terms and in range
pub record InRange (p : Point) : Type 0 where
  pub x : IsFraction p.x
  pub y : IsFraction p.y
  pub z : IsFraction p.z

abbrev pub point_in_range : Point → Bool
point_in_range p = in_range p.x && in_range p.y && in_range p.z

-- the exact point, or the refusal where a coordinate leaves the range
unfoldable pub checked_point : Point → Result Point Overflow
checked_point p = if point_in_range p then Ok p else Err (record {})
