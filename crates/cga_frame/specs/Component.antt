-- Components: scopes in a scope, at its corners.
use Rattle.std.specs.Prelude.{◌≡◌, Bool, Option, Some, None, ◌⊎◌, if◌then◌else◌}
use Rattle.cga_fraction.specs.Rat.{Rat, zero_rat}
use Rattle.cga_word.specs.declared.axis.Axis.{Axis}
use Rattle.cga_word.specs.declared.axis.Axis.TheVariants.{X, Y, Z}
use Rattle.cga_frame.specs.Axes.{along, turn_of, turned}
use Rattle.cga_frame.specs.Points.{coordinate}
use Rattle.cga_frame.specs.Scope.{Scope, far_of}
use Rattle.cga_frame.specs.declared.point.Point.{Point}
use Rattle.cga_frame.specs.declared.signed.Signed.{Signed}
use Rattle.cga_frame.specs.declared.component.Component.{Component}

-- whether the component begins at the scope's far end along an axis
abbrev pub is_high : Component → Axis → Bool
is_high c X = c.x_high
is_high c Y = c.y_high
is_high c Z = c.z_high

-- which of the scope's sizes the component has along its own axis
abbrev pub extent : Component → Axis → Option Axis
extent c X = c.width
extent c Y = c.height
extent c Z = c.depth

abbrev pub size_by : Point → Option Axis → Rat
size_by size None = zero_rat
size_by size (Some a) = coordinate size a

-- the coordinate at which the component begins, of the scope's two ends
abbrev pub corner : Component → Signed → Rat → Rat → Rat
corner c s near far = if is_high c s.axis then far else near

-- the coordinate at which it ends: where it begins if it is flat there, and otherwise the other end
abbrev pub ended : Option Axis → Bool → Rat → Rat → Rat
ended None high near far = if high then far else near
ended (Some a) high near far = if high then near else far

abbrev pub end_of : Component → Signed → Signed → Rat → Rat → Rat
end_of c outer inner near far = ended (extent c inner.axis) (is_high c outer.axis) near far

-- the scope of a component
unfoldable pub component_of : Scope → Component → Scope
component_of s c = record {
  at = record { x = corner c s.frame.x s.at.x (far_of s).x; y = corner c s.frame.y s.at.y (far_of s).y; z = corner c s.frame.z s.at.z (far_of s).z };
  frame = turned s.frame c.axis c.by;
  size = record { x = size_by s.size c.width; y = size_by s.size c.height; z = size_by s.size c.depth };
}

-- along an axis of the scope the component is flat, or has the scope's size and goes back exactly where it begins at the far end
abbrev pub FitsAlong : Component → Axis → Type 0
FitsAlong c a = let s = along (turn_of c.axis c.by) a in (extent c s.axis ≡ None) ⊎ ((extent c s.axis ≡ Some a) × (s.against ≡ is_high c a))

pub record IsFitting (c : Component) : Type 0 where
  pub x : FitsAlong c X
  pub y : FitsAlong c Y
  pub z : FitsAlong c Z
