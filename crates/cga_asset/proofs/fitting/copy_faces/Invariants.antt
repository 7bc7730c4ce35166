use Rattle.std.proofs.Common.{◌≡◌, take}
use Rattle.cga_asset.proofs.fitting.copy_faces.Given as goal

abbrev pub invariant-loop-face : goal.invariant-loop-face
invariant-loop-face l = l.copy ≡ take l.face-index l.faces
