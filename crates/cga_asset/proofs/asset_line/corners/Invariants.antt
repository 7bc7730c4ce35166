use Rattle.std.proofs.Common.{◌≡◌, drop}
use Rattle.cga_asset.specs.Lines.{corners_of}
use Rattle.cga_asset.specs.Views.{texts}
use Rattle.cga_asset.proofs.asset_line.corners.Given as goal
use Rattle.cga_asset.proofs.Corners.{behind}

abbrev pub invariant-loop-word : goal.invariant-loop-word
invariant-loop-word l = behind l.corners (corners_of l.before (texts (drop l.word-index l.words))) ≡ corners_of l.before (texts l.words)
