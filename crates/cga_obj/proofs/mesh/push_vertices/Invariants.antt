use Rattle.std.proofs.Common.{◌≡◌, ◌++◌, take}
use Rattle.std.specs.Prelude.{flat_map}
use Rattle.cga_obj.specs.Meshes.{vertex_line}
use Rattle.cga_obj.proofs.mesh.push_vertices.Given as goal

abbrev pub invariant-loop-vertex : goal.invariant-loop-vertex
invariant-loop-vertex l = l.text ≡ l.fn.text ++ flat_map (vertex_line l.decimals) (take l.vertex-index l.vertices)
