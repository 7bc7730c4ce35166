use Rattle.std.proofs.Common.{◌≡◌, ◌++◌, take}
use Rattle.std.specs.Prelude.{flat_map}
use Rattle.cga_obj.specs.Meshes.{face_line}
use Rattle.cga_obj.proofs.mesh.push_faces.Given as goal

abbrev pub invariant-loop-face : goal.invariant-loop-face
invariant-loop-face l = l.text ≡ l.fn.text ++ flat_map (face_line l.before) (take l.face-index l.faces)
