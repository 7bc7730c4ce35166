-- Scopes: oriented boxes.
use Rattle.std.specs.Prelude.{Bool, ◌&&◌, ◌||◌, Result, Ok, Err, if◌then◌else◌}
use Rattle.cga_fraction.specs.Rat.{Rat, zero_rat}
use Rattle.cga_fraction.specs.Arithmetic.{plus, minus}
use Rattle.cga_fraction.specs.Order.{rat_lt}
use Rattle.cga_fraction.specs.Results.{or_err}
use Rattle.cga_fraction.specs.declared.overflow.Overflow as Unit
use Rattle.cga_word.specs.declared.axis.Axis.{Axis}
use Rattle.cga_word.specs.declared.turn.Turn.{Turn}
use Rattle.cga_frame.specs.Axes.{Frame, turned, same_axis}
use Rattle.cga_frame.specs.Points.{coordinate, with_coordinate, point_in_range, InRange}
use Rattle.cga_frame.specs.declared.point.Point.{Point}
use Rattle.cga_frame.specs.declared.signed.Signed.{Signed}
use Rattle.cga_frame.specs.declared.scope_fault.ScopeFault.{ScopeFault}
use Rattle.cga_frame.specs.declared.scope_fault.ScopeFault.TheVariants.{NegativeSize, Overflow}

-- a position, a frame and a size along each axis of the frame
pub record Scope : Type 0 where
  pub at : Point
  pub frame : Frame
  pub size : Point

-- a number moved by another, the other way where the flag says so
abbrev pub moved : Bool → Rat → Rat → Rat
moved against from by = if against then minus from by else plus from by

-- a world coordinate moved by the local coordinate along the axis that lies there
abbrev pub moved_along : Signed → Rat → Point → Rat
moved_along s from local = moved s.against from (coordinate local s.axis)

-- the point of three coordinates, none of which is refused
abbrev pub joined : Result Rat Unit.Overflow → Result Rat Unit.Overflow → Result Rat Unit.Overflow
    → Result Point Unit.Overflow
joined (Ok x) (Ok y) (Ok z) = Ok (record { x = x; y = y; z = z })
joined a b c = Err (record {})

-- the world point of local coordinates
unfoldable pub world_point : Point → Frame → Point → Point
world_point at frame local = record { x = moved_along frame.x at.x local; y = moved_along frame.y at.y local; z = moved_along frame.z at.z local }

-- the corner opposite to the position
abbrev pub far_of : Scope → Point
far_of s = world_point s.at s.frame s.size

-- whether all coordinates of the scope's box are in range
abbrev pub exists : Scope → Bool
exists s = point_in_range s.at && point_in_range (far_of s)

-- that all coordinates of the scope's box are in range, as a fact
pub record Exists (s : Scope) : Type 0 where
  pub at : InRange s.at
  pub far : InRange (far_of s)

-- the scope where it exists, and otherwise the refusal
unfoldable pub existing : Scope → Result Scope Unit.Overflow
existing s = if exists s then Ok s else Err (record {})

abbrev pub has_negative : Point → Bool
has_negative size = rat_lt size.x zero_rat || rat_lt size.y zero_rat || rat_lt size.z zero_rat

-- a scope, or the fault: first that a size is below 0
unfoldable pub scope_of : Point → Frame → Point → Result Scope ScopeFault
scope_of at frame size = if has_negative size then Err NegativeSize else or_err Overflow (existing (record { at = at; frame = frame; size = size }))

-- moved along the scope's own axes
abbrev pub translated : Scope → Point → Scope
translated s by = record s { at = world_point s.at s.frame by }

abbrev pub turned_scope : Scope → Axis → Turn → Scope
turned_scope s axis by = record s { frame = turned s.frame axis by }

-- a world coordinate moved by so much where the axis lies there
abbrev pub stepped : Signed → Axis → Rat → Rat → Rat
stepped s axis from by = if same_axis s.axis axis then moved s.against from by else from

-- the position moved along one axis of the scope
abbrev pub step_of : Scope → Axis → Rat → Point
step_of s axis by = record { x = stepped s.frame.x axis s.at.x by; y = stepped s.frame.y axis s.at.y by; z = stepped s.frame.z axis s.at.z by }

-- moved along an axis, and with another size along it
unfoldable pub part_of : Scope → Axis → Rat → Rat → Scope
part_of s axis from length = record { at = step_of s axis from; frame = s.frame; size = with_coordinate s.size axis length }
