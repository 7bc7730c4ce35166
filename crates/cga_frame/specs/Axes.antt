-- Axes with a sign, and frames of them.
use Rattle.std.specs.Prelude.{◌≡◌, Bool, true, false, not, Option, Some, None, if◌then◌else◌}
use Rattle.cga_word.specs.declared.axis.Axis.{Axis}
use Rattle.cga_word.specs.declared.axis.Axis.TheVariants.{X, Y, Z}
use Rattle.cga_word.specs.declared.turn.Turn.{Turn}
use Rattle.cga_word.specs.declared.turn.Turn.TheVariants.{By0, By90, By180, By270}
use Rattle.cga_frame.specs.declared.direction.Direction.{Direction}
use Rattle.cga_frame.specs.declared.direction.Direction.TheVariants.{PlusX, MinusX, PlusY, MinusY, PlusZ, MinusZ}
use Rattle.cga_frame.specs.declared.signed.Signed.{Signed}

abbrev pub forth : Axis → Direction
forth X = PlusX
forth Y = PlusY
forth Z = PlusZ

abbrev pub opposite : Axis → Direction
opposite X = MinusX
opposite Y = MinusY
opposite Z = MinusZ

-- the direction of a signed world axis
abbrev pub direction : Signed → Direction
direction s = if s.against then opposite s.axis else forth s.axis

abbrev pub plus_of : Axis → Signed
plus_of a = record { axis = a; against = false }

abbrev pub minus_of : Axis → Signed
minus_of a = record { axis = a; against = true }

-- one of the two, and not both
abbrev pub differ : Bool → Bool → Bool
differ true b = not b
differ false b = b

-- turned to the other side where the flag says so
abbrev pub flipped : Bool → Signed → Signed
flipped flip s = record { axis = s.axis; against = differ flip s.against }

abbrev pub same_axis : Axis → Axis → Bool
same_axis X X = true
same_axis Y Y = true
same_axis Z Z = true
same_axis a b = false

-- a frame: for each world axis the scope's axis that lies along it, and whether it points the other way
pub record Frame : Type 0 where
  pub x : Signed
  pub y : Signed
  pub z : Signed

abbrev pub along : Frame → Axis → Signed
along f X = f.x
along f Y = f.y
along f Z = f.z

-- the frame with these axes, each given as a signed world axis
abbrev pub seen_from : Signed → Signed → Signed → Axis → Signed
seen_from x y z k = if same_axis x.axis k then record { axis = X; against = x.against } else (if same_axis y.axis
    k then record { axis = Y; against = y.against } else record { axis = Z; against = z.against })

abbrev pub frame_of : Signed → Signed → Signed → Frame
frame_of x y z = record { x = seen_from x y z X; y = seen_from x y z Y; z = seen_from x y z Z }

-- the signed world axis along which an axis of the frame points
abbrev pub axis_of : Frame → Axis → Signed
axis_of f a = if same_axis f.x.axis a then record { axis = X; against = f.x.against } else (if same_axis f.y.axis
    a then record { axis = Y; against = f.y.against } else record { axis = Z; against = f.z.against })

-- the cross product of two signed axes that lie along different axes
abbrev pub third : Axis → Axis → Signed
third X Y = plus_of Z
third Y Z = plus_of X
third Z X = plus_of Y
third Y X = minus_of Z
third Z Y = minus_of X
third X Z = minus_of Y
third a b = plus_of a

abbrev pub cross : Signed → Signed → Signed
cross a b = flipped (differ a.against b.against) (third a.axis b.axis)

-- the axes are a triple of signed axes whose third is the cross product of the first two
pub record IsRightHanded (f : Frame) : Type 0 where
  pub third : axis_of f Z ≡ cross (axis_of f X) (axis_of f Y)
  pub apart : same_axis (axis_of f X).axis (axis_of f Y).axis ≡ false

-- whether the three axes are an odd order of X, Y and Z; nothing where one is missing
abbrev pub parity : Axis → Axis → Axis → Option Bool
parity X Y Z = Some false
parity Y Z X = Some false
parity Z X Y = Some false
parity X Z Y = Some true
parity Y X Z = Some true
parity Z Y X = Some true
parity a b c = None

-- each axis lies along one world axis, and so many point the other way that the frame is right-handed
pub record IsFrame (f : Frame) : Type 0 where
  pub even : parity f.x.axis f.y.axis f.z.axis ≡ Some (differ f.x.against (differ f.y.against f.z.against))

abbrev pub base_frame : Frame
base_frame = frame_of (plus_of X) (plus_of Y) (plus_of Z)

-- a quarter turn about an axis, in the frame's own axes: Rx gives Y' = Z and Z' = -Y, and so on around
abbrev pub quarter : Axis → Frame
quarter X = frame_of (plus_of X) (plus_of Z) (minus_of Y)
quarter Y = frame_of (minus_of Z) (plus_of Y) (plus_of X)
quarter Z = frame_of (plus_of Y) (minus_of X) (plus_of Z)

-- the frame whose axes are those of inner, given in the axes of outer
abbrev pub within : Frame → Signed → Signed
within inner s = flipped s.against (along inner s.axis)

abbrev pub composed : Frame → Frame → Frame
composed outer inner = record { x = within inner outer.x; y = within inner outer.y; z = within inner outer.z }

-- the frame that a turn makes of the base frame; greater turns repeat the quarter
abbrev pub turn_of : Axis → Turn → Frame
turn_of a By0 = base_frame
turn_of a By90 = quarter a
turn_of a By180 = composed (quarter a) (quarter a)
turn_of a By270 = composed (composed (quarter a) (quarter a)) (quarter a)

-- the frame after a turn about one of its own axes
unfoldable pub turned : Frame → Axis → Turn → Frame
turned f a by = composed f (turn_of a by)

-- the signed world axis of a signed axis of the frame
abbrev pub seen : Frame → Signed → Signed
seen f s = flipped s.against (axis_of f s.axis)

-- the new axes of a quarter turn in the old ones: Rx gives Y' = Z and Z' = -Y, and so on around
abbrev pub rule_of : Axis → Axis → Signed
rule_of X X = plus_of X
rule_of X Y = plus_of Z
rule_of X Z = minus_of Y
rule_of Y X = minus_of Z
rule_of Y Y = plus_of Y
rule_of Y Z = plus_of X
rule_of Z X = plus_of Y
rule_of Z Y = minus_of X
rule_of Z Z = plus_of Z

-- the axes of the new frame are those that a quarter turn makes of the old one's
pub record IsQuarter (a : Axis) (old new : Frame) : Type 0 where
  pub x : axis_of new X ≡ seen old (rule_of a X)
  pub y : axis_of new Y ≡ seen old (rule_of a Y)
  pub z : axis_of new Z ≡ seen old (rule_of a Z)

-- the turns of a frame about one of its axes: greater ones repeat the quarter turn, and four quarters are none
pub record IsTurning (f : Frame) (a : Axis) : Type 0 where
  pub none : turned f a By0 ≡ f
  pub quarter_turn : IsQuarter a f (turned f a By90)
  pub half : turned f a By180 ≡ turned (turned f a By90) a By90
  pub three_quarters : turned f a By270 ≡ turned (turned (turned f a By90) a By90) a By90
  pub whole : turned (turned (turned (turned f a By90) a By90) a By90) a By90 ≡ f
