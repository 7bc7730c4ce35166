-- Faces of which only the end tells whether they are faulty.
use Rattle.std.specs.Prelude.{ℕ, List, [], ◌∷◌, Option, Some, None, Result, Ok, Err, if◌then◌else◌}
use Rattle.cga_solid.specs.declared.solid_mesh.SolidMesh.{SolidMesh}
use Rattle.cga_asset.specs.Lines.{fits}
use Rattle.cga_asset.specs.declared.fault.AssetFault.{AssetFault}
use Rattle.cga_asset.specs.declared.fault.AssetFault.TheVariants.{BadFace}

-- the first face with a number that names no vertex, by its line
abbrev pub pending : ℕ → List (List ℕ) → List ℕ → Result (Unit {0}) AssetFault
pending total [] lines = Ok tt
pending total (f ∷ fs) [] = Ok tt
pending total (f ∷ fs) (l ∷ ls) = if fits total f then pending total fs ls else Err (BadFace l)

-- what was read, or its fault
abbrev pub unless_faulty : Option AssetFault → SolidMesh → Result SolidMesh AssetFault
unless_faulty None a = Ok a
unless_faulty (Some f) a = Err f
