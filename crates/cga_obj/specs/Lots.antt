-- The OBJ text.
use Rattle.std.specs.Prelude.{◌≡◌, ℕ, ◌+◌, List, [], ◌∷◌, ◌++◌, All, Bool, bytes_eq, codes, filter, length, sum_by, IsOk}
use Rattle.cga_shape.specs.declared.drawn.Drawn.{Drawn}
use Rattle.cga_solid.specs.Solids.{check_solid_of}
use Rattle.cga_solid.specs.declared.solid_mesh.SolidMesh.{SolidMesh}
use Rattle.cga_obj.specs.Meshes.{mesh_drawn, mesh_text}

-- the mesh that stands for what is drawn
abbrev pub Shown : Type 0
Shown = Drawn → SolidMesh

-- what is drawn for one instance, where so many vertices stand before it
unfoldable pub instance_text : Shown → ℕ → ℕ → Drawn → List ℕ
instance_text mesh decimals before d = codes "g " ++ d.symbol ++ codes "\n" ++ mesh_text decimals before (mesh d)

-- how many vertices it has
abbrev pub vertex_count : Shown → Drawn → ℕ
vertex_count mesh d = length (mesh d).vertices

-- each of these after the other
unfoldable pub instances_text : Shown → ℕ → ℕ → List Drawn → List ℕ
instances_text mesh decimals before [] = []
instances_text mesh decimals before (d ∷ ds) = instance_text mesh decimals before d ++ instances_text mesh decimals (before + vertex_count mesh d) ds

-- how many vertices these have
abbrev pub vertices_in : Shown → List Drawn → ℕ
vertices_in mesh drawn = sum_by (vertex_count mesh) drawn

-- whether it is drawn in a lot
abbrev pub is_of : List ℕ → Drawn → Bool
is_of lot d = bytes_eq lot d.lot

-- those of a lot
abbrev pub drawn_of : List ℕ → List Drawn → List Drawn
drawn_of lot drawn = filter (is_of lot) drawn

unfoldable pub lot_text : Shown → ℕ → ℕ → List ℕ → List Drawn → List ℕ
lot_text mesh decimals before lot drawn = codes "o " ++ lot ++ codes "\n" ++ instances_text mesh decimals before drawn

-- each lot with what is drawn of it
unfoldable pub lots_text : Shown → ℕ → List Drawn → ℕ → List (List ℕ) → List ℕ
lots_text mesh decimals drawn before [] = []
lots_text mesh decimals drawn before (lot ∷ lots) =
    lot_text mesh decimals before lot (drawn_of lot drawn) ++ lots_text mesh decimals drawn (before + vertices_in mesh (drawn_of lot drawn)) lots

-- the text of lots and of what is drawn, with so many decimals, where these meshes stand for it
unfoldable pub text_by : Shown → List (List ℕ) → List Drawn → ℕ → List ℕ
text_by mesh lots drawn decimals = codes "# cga_city obj\n" ++ lots_text mesh decimals drawn 0 lots

-- where its solids do
unfoldable pub obj_text_of : List (List ℕ) → List Drawn → ℕ → List ℕ
obj_text_of lots drawn decimals = text_by mesh_drawn lots drawn decimals

-- what is drawn stands by the order of the lots: each in turn has its own at the front, and nothing is left
abbrev pub StandsBy : List (List ℕ) → List Drawn → Type 0
StandsBy [] drawn = drawn ≡ []
StandsBy (lot ∷ lots) drawn = (own rest : List Drawn) × (drawn ≡ own ++ rest) × All (λ d. d.lot ≡ lot) own × StandsBy lots rest

-- each has a mesh
abbrev pub AreSolid : List Drawn → Type 0
AreSolid drawn = All (λ d. IsOk (check_solid_of d.primitive d.scope)) drawn
