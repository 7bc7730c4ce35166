use Rattle.std.proofs.Common.{◌≡◌, ◌++◌, take}
use Rattle.std.specs.Prelude.{flat_map}
use Rattle.cga_obj.specs.Meshes.{corner_text}
use Rattle.cga_obj.proofs.mesh.push_corners.Given as goal

abbrev pub invariant-loop-corner : goal.invariant-loop-corner
invariant-loop-corner l = l.text ≡ l.fn.text ++ flat_map (corner_text l.before) (take l.corner-index l.corners)
