-- Cubes and quads by the ends of their scope.
use Rattle.std.specs.Prelude.{◌≡◌, ◌≢◌, ℕ, List, [], ◌∷◌, ◌++◌, Bool, true, false, codes, if◌then◌else◌}
use Rattle.cga_fraction.specs.Rat.{Rat, zero_rat}
use Rattle.cga_fraction.specs.Texts.{decimal_text_of}
use Rattle.cga_obj.specs.Narrow.{IsNarrow}
use Rattle.cga_word.specs.declared.axis.Axis.{Axis}
use Rattle.cga_word.specs.declared.axis.Axis.TheVariants.{X, Y, Z}
use Rattle.cga_frame.specs.Scope.{Scope, world_point}
use Rattle.cga_frame.specs.declared.point.Point.{Point}
use Rattle.cga_obj.specs.declared.corner.Corner.{Corner}
use Rattle.cga_obj.specs.declared.span.Span.{Span}
use Rattle.cga_obj.specs.declared.ends.Ends.{Ends}

-- whether a corner is at the far end along an axis of its box
abbrev pub is_far : Corner → Axis → Bool
is_far c X = c.x
is_far c Y = c.y
is_far c Z = c.z

abbrev pub local_point : Rat → Rat → Rat → Point
local_point x y z = record { x = x; y = y; z = z }

-- 0, or the whole size
abbrev pub end_of : Bool → Rat → Rat
end_of far size = if far then size else zero_rat

-- the corner in local coordinates, in a scope of this size
abbrev pub corner_in : Point → Corner → Point
corner_in size c = record { x = end_of c.x size.x; y = end_of c.y size.y; z = end_of c.z size.z }

-- a world coordinate of a corner
abbrev pub along_span : Span → Corner → Rat
along_span s c = if is_far c s.axis then s.far else s.near

-- the far end is the one of three coordinates that isn't near, and where all are near it is the last
abbrev pub IsFarOf : Axis → Rat → Rat → Rat → Rat → Rat → Type 0
IsFarOf X near x y z far = (far ≡ x) × (x ≢ near)
IsFarOf Y near x y z far = (far ≡ y) × (x ≡ near) × (y ≢ near)
IsFarOf Z near x y z far = (far ≡ z) × (x ≡ near) × (y ≡ near)

-- a corner by its three spans
abbrev pub point_at : Span → Span → Span → Corner → Point
point_at x y z c = record { x = along_span x c; y = along_span y c; z = along_span z c }

-- the spans of a scope
abbrev pub AreSpans : Scope → Span → Span → Span → Type 0
AreSpans s x y z = (c : Corner) → world_point s.at s.frame (corner_in s.size c) ≡ point_at x y z c

-- both ends have narrow numbers
abbrev pub AreNarrow : Span → Type 0
AreNarrow s = IsNarrow s.near × IsNarrow s.far

-- a coordinate's decimals, and what stands behind them
abbrev pub coordinate_text : ℕ → List ℕ → Rat → List ℕ
coordinate_text decimals behind a = decimal_text_of a decimals ++ behind

-- the first coordinate of a line
abbrev pub first_text : ℕ → Rat → List ℕ
first_text decimals a = codes "v " ++ coordinate_text decimals (codes " ") a

-- the texts of both ends of a first coordinate
abbrev pub first_ends : ℕ → Span → Ends
first_ends decimals s = record { axis = s.axis; near = first_text decimals s.near; far = first_text decimals s.far }

-- and of a further one, with a byte behind each
abbrev pub further_ends : ℕ → ℕ → Span → Ends
further_ends decimals behind s =
    let text = coordinate_text decimals (behind ∷ []) in record { axis = s.axis; near = text s.near; far = text s.far }

-- the text of the end at which a corner is
abbrev pub end_text : Ends → Corner → List ℕ
end_text e c = if is_far c e.axis then e.far else e.near

-- the line of a corner
abbrev pub corner_line : Ends → Ends → Ends → Corner → List ℕ
corner_line x y z c = end_text x c ++ (end_text y c ++ end_text z c)

-- a face of four corners by the texts of their numbers
abbrev pub face_by : List ℕ → List ℕ → List ℕ → List ℕ → List ℕ
face_by a b c d = codes "f" ++ (a ++ (b ++ (c ++ (d ++ codes "\n"))))

abbrev pub at_corner : Bool → Bool → Bool → Corner
at_corner x y z = record { x = x; y = y; z = z }

abbrev pub cube_corners : List Corner
cube_corners =
    at_corner false false false ∷ at_corner true false false ∷ at_corner true false true
    ∷ at_corner false false true ∷ at_corner false true false ∷ at_corner true true false
    ∷ at_corner true true true ∷ at_corner false true true ∷ []

abbrev pub quad_corners : List Corner
quad_corners = at_corner false false false ∷ at_corner true false false ∷ at_corner true true false ∷ at_corner false true false ∷ []
