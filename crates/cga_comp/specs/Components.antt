-- Which components a scope has.
use Rattle.std.specs.Prelude.{ℕ, zero, suc, List, [], ◌∷◌, ◌++◌, Bool, not, ◌&&◌, ◌||◌, Option, Some, None, Result, Ok, Err, slice_get, if◌then◌else◌}
use Rattle.cga_fraction.specs.Rat.{zero_rat}
use Rattle.cga_fraction.specs.Order.{rat_lt}
use Rattle.cga_word.specs.declared.axis.Axis.{Axis}
use Rattle.cga_word.specs.declared.axis.Axis.TheVariants.{X, Y, Z}
use Rattle.cga_word.specs.declared.selector.Selector.{Selector}
use Rattle.cga_word.specs.declared.selector.Selector.TheVariants.{Faces, Sidefaces, Face, Edges, Edge, Vertices}
use Rattle.cga_word.specs.declared.side.Side.TheVariants.{Front, Right, Back, Left, Top, Bottom}
use Rattle.cga_frame.specs.Component.{component_of}
use Rattle.cga_frame.specs.Points.{coordinate}
use Rattle.cga_frame.specs.Scope.{Scope}
use Rattle.cga_frame.specs.declared.component.Component.{Component}
use Rattle.cga_frame.specs.declared.point.Point.{Point}
use Rattle.cga_comp.specs.declared.flat_scope.FlatScope.{FlatScope}
use Rattle.cga_comp.specs.Table.{low, high, face_of, edge_of, vertex_of}

abbrev pub is_flat : Point → Axis → Bool
is_flat size a = not (rat_lt zero_rat (coordinate size a))

-- flat along no axis
abbrev pub is_solid : Point → Bool
is_solid size = not (is_flat size X || is_flat size Y || is_flat size Z)

-- flat along at most one axis
abbrev pub is_sheet : Point → Bool
is_sheet size = not ((is_flat size X && (is_flat size Y || is_flat size Z)) || (is_flat size Y && is_flat size Z))

abbrev pub side_faces : Scope → List Scope
side_faces s = component_of s (face_of Front) ∷ component_of s (face_of Right) ∷ component_of s (face_of Back) ∷ component_of s (face_of Left) ∷ []

abbrev pub faces : Scope → List Scope
faces s = side_faces s ++ component_of s (face_of Top) ∷ component_of s (face_of Bottom) ∷ []

-- a flat axis has no high end
abbrev pub has_ends : Point → Component → Bool
has_ends size c = not ((c.x_high && is_flat size X) || (c.y_high && is_flat size Y) || (c.z_high && is_flat size Z))

-- the component, where the scope has the ends at which it begins
abbrev pub present : Scope → Component → List Scope
present s c = if has_ends s.size c then component_of s c ∷ [] else []

-- the components of four pairs of ends, the second end changing first
abbrev pub of_pairs : Scope → (Bool → Bool → Component) → List Scope
of_pairs s c = present s (c low low) ++ present s (c low high) ++ present s (c high low) ++ present s (c high high)

-- a flat axis has no edges along it
abbrev pub edges_along : Scope → Axis → List Scope
edges_along s a = if is_flat s.size a then [] else of_pairs s (edge_of a)

abbrev pub edges : Scope → List Scope
edges s = edges_along s X ++ edges_along s Y ++ edges_along s Z

abbrev pub vertices : Scope → List Scope
vertices s = of_pairs s (vertex_of low) ++ of_pairs s (vertex_of high)

-- faces are those of a solid; edges and vertices those of a sheet too
abbrev pub has_all : Point → Selector → Bool
has_all size Faces = is_solid size
has_all size Sidefaces = is_solid size
has_all size (Face side) = is_solid size
has_all size Edges = is_sheet size
has_all size (Edge n) = is_sheet size
has_all size Vertices = is_sheet size

-- the one with this number, from 1
abbrev pub numbered : ℕ → List Scope → Option Scope
numbered zero scopes = None
numbered (suc n) scopes = slice_get scopes n

abbrev pub one_of : Option Scope → Result (List Scope) FlatScope
one_of None = Err (record {})
one_of (Some s) = Ok (s ∷ [])

-- what is selected, of a scope that has it; a sheet has four edges alone
abbrev pub selected : Scope → Selector → Result (List Scope) FlatScope
selected s Faces = Ok (faces s)
selected s Sidefaces = Ok (side_faces s)
selected s (Face side) = Ok (component_of s (face_of side) ∷ [])
selected s Edges = Ok (edges s)
selected s (Edge n) = one_of (numbered n (edges s))
selected s Vertices = Ok (vertices s)

-- the components of a scope, in order
unfoldable pub components_of : Scope → Selector → Result (List Scope) FlatScope
components_of s selector = if has_all s.size selector then selected s selector else Err (record {})
