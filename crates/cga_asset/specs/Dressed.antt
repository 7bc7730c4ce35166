-- What is drawn, dressed.
use Rattle.std.specs.Prelude.{ℕ, ◌+◌, List, Bool, ◌||◌, nat_lt, length, sum_by, Option, Some, None, Result, Ok, Err, if◌then◌else◌}
use Rattle.cga_fraction.specs.declared.overflow.Overflow.{Overflow}
use Rattle.cga_shape.specs.declared.drawn.Drawn.{Drawn}
use Rattle.cga_solid.specs.declared.solid_mesh.SolidMesh.{SolidMesh}
use Rattle.cga_obj.specs.Lots.{Shown, text_by}
use Rattle.cga_obj.specs.Meshes.{mesh_drawn}
use Rattle.cga_asset.specs.Fit.{fit_of}
use Rattle.cga_asset.specs.Wardrobe.{WardrobeView, worn}
use Rattle.cga_asset.specs.declared.model_size.ModelSize.{ModelSize}
use Rattle.cga_asset.specs.declared.too_large.ModelTooLarge.{ModelTooLarge}

-- the fitted asset, or the solid where the fit is refused
abbrev pub fitted_or_solid : Result SolidMesh Overflow → Drawn → SolidMesh
fitted_or_solid (Ok m) d = m
fitted_or_solid (Err e) d = mesh_drawn d

abbrev pub worn_or_solid : Option SolidMesh → Drawn → SolidMesh
worn_or_solid None d = mesh_drawn d
worn_or_solid (Some asset) d = fitted_or_solid (fit_of asset d.scope) d

-- an instance whose symbol is dressed is drawn by the asset, fitted into its scope
unfoldable pub dressed_mesh : WardrobeView → Drawn → SolidMesh
dressed_mesh w d = worn_or_solid (worn w d.symbol) d

-- the numbers on all lines of its faces
abbrev pub face_entries : SolidMesh → ℕ
face_entries m = sum_by (λ f. length f) m.faces

abbrev pub vertices_of : Shown → Drawn → ℕ
vertices_of mesh d = length (mesh d).vertices

abbrev pub entries_of : Shown → Drawn → ℕ
entries_of mesh d = face_entries (mesh d)

-- what would be drawn has too many vertices or face entries
abbrev pub is_too_large : Shown → List Drawn → Bool
is_too_large mesh drawn = nat_lt 4000000 (sum_by (vertices_of mesh) drawn) || nat_lt 16000000 (sum_by (entries_of mesh) drawn)

-- the size of no mesh
abbrev pub no_size : ModelSize
no_size = record { vertices = 0; entries = 0 }

-- a size, with what is drawn more
abbrev pub with_drawn : Shown → List Drawn → ModelSize → ModelSize
with_drawn mesh drawn size = record {
  vertices = size.vertices + sum_by (vertices_of mesh) drawn;
  entries = size.entries + sum_by (entries_of mesh) drawn;
}

-- a model of this size is too large
abbrev pub is_over : ModelSize → Bool
is_over size = nat_lt 4000000 size.vertices || nat_lt 16000000 size.entries

abbrev pub within_limit : ModelSize → Result ModelSize ModelTooLarge
within_limit size = if is_over size then Err (record {}) else Ok size

-- the text of a model, or its refusal
unfoldable pub model_text_of : WardrobeView → List (List ℕ) → List Drawn → ℕ → Result (List ℕ) ModelTooLarge
model_text_of w lots drawn decimals = if is_too_large (dressed_mesh w) drawn then Err (record {}) else Ok (text_by (dressed_mesh w) lots drawn decimals)
