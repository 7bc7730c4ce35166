use Rattle.std.proofs.Common.{◌≡◌, ◌++◌, take}
use Rattle.std.specs.Prelude.{flat_map}
use Rattle.cga_obj.specs.Boxes.{corner_line}
use Rattle.cga_obj.proofs.boxes.push_corners.Given as goal

abbrev pub invariant-loop-corner : goal.invariant-loop-corner
invariant-loop-corner l = l.text ≡ l.fn.text ++ flat_map (corner_line l.x l.y l.z) (take l.corner-index l.corners)
