use Rattle.std.proofs.Common.{◌≡◌, take}
use Rattle.cga_solid.proofs.faces.add_face.Given as goal

abbrev pub invariant-loop-corner : goal.invariant-loop-corner
invariant-loop-corner l = l.face ≡ take l.corner-index l.corners
