-- What is pushed of a cube or a quad.
use Rattle.std.specs.Prelude.{◌≡◌, ℕ, List, [], ◌∷◌, ◌++◌, Option, Some, None, length, map}
use Rattle.cga_solid.specs.Faces.{four}
use Rattle.cga_solid.specs.declared.solid_mesh.SolidMesh.{SolidMesh}
use Rattle.cga_obj.specs.Boxes.{point_at}
use Rattle.cga_obj.specs.Meshes.{mesh_text}
use Rattle.cga_obj.specs.declared.corner.Corner.{Corner}
use Rattle.cga_obj.specs.declared.span.Span.{Span}

abbrev pub cube_faces : List (List ℕ)
cube_faces = four 4 3 7 8 ∷ four 3 2 6 7 ∷ four 2 1 5 6 ∷ four 1 4 8 5 ∷ four 8 7 6 5 ∷ four 1 2 3 4 ∷ []

abbrev pub quad_faces : List (List ℕ)
quad_faces = four 1 2 3 4 ∷ []

-- the mesh whose vertices are these corners of a box
abbrev pub box_mesh : List (List ℕ) → List Corner → Span × Span × Span → SolidMesh
box_mesh faces corners along = record { vertices = map (point_at along.0 along.1 along.2) corners; faces = faces }

-- the lines of a mesh were added, and it has so many vertices; or nothing was added
abbrev pub IsPushed : List ℕ → List ℕ → ℕ → ℕ → SolidMesh → Option ℕ → Type 0
IsPushed old new decimals before m (Some count) = (new ≡ old ++ mesh_text decimals before m) × (count ≡ length m.vertices)
IsPushed old new decimals before m None = new ≡ old
