use Rattle.std.proofs.Common.{◌≡◌, drop}
use Rattle.cga_asset.specs.Pending.{pending}
use Rattle.cga_asset.proofs.reader.check_faces.Given as goal

abbrev pub invariant-loop-at : goal.invariant-loop-at
invariant-loop-at l = pending l.total (drop l.at l.faces) (drop l.at l.lines) ≡ pending l.total l.faces l.lines
