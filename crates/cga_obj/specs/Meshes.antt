-- The lines of a solid.
use Rattle.std.specs.Prelude.{ℕ, ◌+◌, List, [], ◌++◌, Result, Ok, Err, codes, decimal, flat_map}
use Rattle.cga_fraction.specs.Texts.{decimal_text_of}
use Rattle.cga_frame.specs.declared.point.Point.{Point}
use Rattle.cga_shape.specs.declared.drawn.Drawn.{Drawn}
use Rattle.cga_solid.specs.Solids.{mesh_of}
use Rattle.cga_solid.specs.declared.solid_fault.SolidFault.{SolidFault}
use Rattle.cga_solid.specs.declared.solid_mesh.SolidMesh.{SolidMesh}

-- a vertex, with so many decimals
unfoldable pub vertex_line : ℕ → Point → List ℕ
vertex_line decimals p =
    codes "v " ++ decimal_text_of p.x decimals ++ codes " " ++ decimal_text_of p.y decimals ++ codes " " ++ decimal_text_of p.z decimals ++ codes "\n"

-- a vertex of a face by its number in the text, where so many vertices stand before the solid
unfoldable pub corner_text : ℕ → ℕ → List ℕ
corner_text before corner = codes " " ++ decimal (before + corner)

-- a face
unfoldable pub face_line : ℕ → List ℕ → List ℕ
face_line before corners = codes "f" ++ flat_map (corner_text before) corners ++ codes "\n"

-- a mesh: all its vertices, then all its faces
unfoldable pub mesh_text : ℕ → ℕ → SolidMesh → List ℕ
mesh_text decimals before m = flat_map (vertex_line decimals) m.vertices ++ flat_map (face_line before) m.faces

-- the mesh that a solid has; nothing where it is refused
abbrev pub mesh_or_none : Result SolidMesh SolidFault → SolidMesh
mesh_or_none (Ok m) = m
mesh_or_none (Err e) = record { vertices = []; faces = [] }

abbrev pub mesh_drawn : Drawn → SolidMesh
mesh_drawn d = mesh_or_none (mesh_of d.primitive d.scope)
