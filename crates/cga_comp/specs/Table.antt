-- The table of components: where each begins, how its axes lie, and its sizes.
use Rattle.std.specs.Prelude.{Bool, true, false, Option, Some, None}
use Rattle.cga_word.specs.declared.axis.Axis.{Axis}
use Rattle.cga_word.specs.declared.axis.Axis.TheVariants.{X, Y, Z}
use Rattle.cga_word.specs.declared.side.Side.{Side}
use Rattle.cga_word.specs.declared.side.Side.TheVariants.{Front, Right, Back, Left, Top, Bottom}
use Rattle.cga_word.specs.declared.turn.Turn.{Turn}
use Rattle.cga_word.specs.declared.turn.Turn.TheVariants.{By0, By90, By180, By270}
use Rattle.cga_frame.specs.declared.component.Component.{Component}

abbrev pub low : Bool
low = false

abbrev pub high : Bool
high = true

-- the ends of X, Y and Z at which it begins, the turn that makes its axes, and which sizes it has along its X and Y
abbrev pub row : Bool → Bool → Bool → Axis → Turn → Option Axis → Option Axis → Component
row x y z axis by width height = record { x_high = x; y_high = y; z_high = z; axis = axis; by = by; width = width; height = height; depth = None }

-- a face's Z points outwards
abbrev pub face_of : Side → Component
face_of Front = row low low high Y By0 (Some X) (Some Y)
face_of Right = row high low high Y By90 (Some Z) (Some Y)
face_of Back = row high low low Y By180 (Some X) (Some Y)
face_of Left = row low low low Y By270 (Some Z) (Some Y)
face_of Top = row low high high X By270 (Some X) (Some Z)
face_of Bottom = row low low low X By90 (Some X) (Some Z)

-- an edge along an axis, at these ends of the two others
abbrev pub edge_of : Axis → Bool → Bool → Component
edge_of X y z = row low y z X By0 (Some X) None
edge_of Y x z = row x low z Z By90 (Some Y) None
edge_of Z x y = row x y low Y By270 (Some Z) None

abbrev pub vertex_of : Bool → Bool → Bool → Component
vertex_of x y z = row x y z X By0 None None
