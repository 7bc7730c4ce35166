-- An asset fitted into a scope.
use Rattle.std.specs.Prelude.{List, [], ◌∷◌, Result, Ok, if◌then◌else◌}
use Rattle.std.specs.List.{fold}
use Rattle.cga_fraction.specs.Rat.{Rat, zero_rat}
use Rattle.cga_fraction.specs.Arithmetic.{minus, times, divided}
use Rattle.cga_fraction.specs.Order.{rat_min, rat_max}
use Rattle.cga_fraction.specs.Refusals.{checked, is_zero}
use Rattle.cga_fraction.specs.Results.{and_then}
use Rattle.cga_fraction.specs.declared.overflow.Overflow.{Overflow}
use Rattle.cga_frame.specs.Points.{checked_point, coordinate}
use Rattle.cga_frame.specs.Scope.{Scope, world_point}
use Rattle.cga_frame.specs.declared.point.Point.{Point}
use Rattle.cga_solid.specs.declared.solid_mesh.SolidMesh.{SolidMesh}
use Rattle.cga_word.specs.declared.axis.Axis.{Axis}
use Rattle.cga_word.specs.declared.axis.Axis.TheVariants.{X, Y, Z}
use Rattle.cga_asset.specs.declared.span.Span.{Span}
use Rattle.cga_asset.specs.declared.span.Spans.{Spans}

-- the least and the greatest coordinate along an axis, of a first point and others
abbrev pub least : Axis → Point → List Point → Rat
least axis p ps = fold (λ m (q : Point). rat_min m (coordinate q axis)) (coordinate p axis) ps

abbrev pub greatest : Axis → Point → List Point → Rat
greatest axis p ps = fold (λ m (q : Point). rat_max m (coordinate q axis)) (coordinate p axis) ps

-- the least coordinate, and the difference between the greatest and it, where that is in range
abbrev pub span_of : Axis → List Point → Result Span Overflow
span_of axis [] = Ok (record { low = zero_rat; extent = zero_rat })
span_of axis (p ∷ ps) = and_then (checked (minus (greatest axis p ps) (least axis p ps))) (λ e. Ok (record { low = least axis p ps; extent = e }))

abbrev pub box_of : List Point → Result Spans Overflow
box_of points = and_then (span_of X points) (λ x. and_then (span_of Y points) (λ y. and_then (span_of Z points) (λ z. Ok (record { x = x; y = y; z = z }))))

-- the local coordinate: 0 along a flat axis, and otherwise the share of the extent times the size; each step has to be in
-- range
abbrev pub local_of : Span → Rat → Rat → Result Rat Overflow
local_of span size at =
    if is_zero span.extent.num then Ok zero_rat
    else and_then (checked (minus at span.low)) (λ from. and_then (checked (divided from span.extent)) (λ share. checked (times share size)))

abbrev pub point_in : Spans → Point → Point → Result Point Overflow
point_in spans size p =
    and_then (local_of spans.x size.x p.x) (λ x. and_then (local_of spans.y size.y p.y) (λ y. and_then (local_of spans.z size.z p.z) (λ z. Ok (record { x = x; y = y; z = z }))))

-- a vertex of the asset in the world
unfoldable pub fitted_point : Spans → Scope → Point → Result Point Overflow
fitted_point spans s p = and_then (point_in spans s.size p) (λ local. checked_point (world_point s.at s.frame local))

abbrev pub all_fitted : Spans → Scope → List Point → Result (List Point) Overflow
all_fitted spans s [] = Ok []
all_fitted spans s (p ∷ ps) = and_then (fitted_point spans s p) (λ v. and_then (all_fitted spans s ps) (λ vs. Ok (v ∷ vs)))

-- the mesh in the world, with the faces as they are
unfoldable pub fit_of : SolidMesh → Scope → Result SolidMesh Overflow
fit_of asset s = and_then (box_of asset.vertices) (λ spans. and_then (all_fitted spans s asset.vertices) (λ vs. Ok (record { vertices = vs; faces = asset.faces })))
