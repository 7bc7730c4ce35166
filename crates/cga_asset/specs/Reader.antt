-- Which lines a reader was given.
use Rattle.std.specs.Prelude.{◌≡◌, ℕ, List, length, Result}
use Rattle.cga_form.specs.Lines.{Line}
use Rattle.cga_fraction.specs.Results.{and_then}
use Rattle.cga_solid.specs.declared.solid_mesh.SolidMesh.{SolidMesh}
use Rattle.cga_asset.specs.Lines.{counted, no_mesh, vertex_lines, with_lines}
use Rattle.cga_asset.specs.Pending.{pending, unless_faulty}
use Rattle.cga_asset.specs.declared.fault.AssetFault.{AssetFault}
use Rattle.cga_asset.specs.declared.reader.AssetReader.{AssetReader}

-- what the lines come to, where so many lines begin with `v`
abbrev pub outcome : AssetReader → ℕ → Result SolidMesh AssetFault
outcome r total = and_then (pending total r.mesh.faces r.face_lines) (λ u. unless_faulty r.fault r.mesh)

-- the reader was given these lines
pub record StandsFor (r : AssetReader) (lines : List Line) : Type 0 where
  pub number : r.lines ≡ counted (length lines)
  pub vertices : r.vertex_lines ≡ vertex_lines lines
  pub paired : length r.mesh.faces ≡ length r.face_lines
  pub gives : (total : ℕ) → with_lines total 1 no_mesh lines ≡ outcome r total
