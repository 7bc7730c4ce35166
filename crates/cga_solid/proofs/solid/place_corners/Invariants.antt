use Rattle.std.proofs.Common.{◌≡◌, drop}
use Rattle.cga_fraction.specs.Results.{onto}
use Rattle.cga_solid.specs.Solids.{all_placed}
use Rattle.cga_solid.proofs.solid.place_corners.Given as goal

abbrev pub invariant-loop-corner : goal.invariant-loop-corner
invariant-loop-corner l = onto l.vertices (all_placed l.scope (drop l.corner-index l.corners)) ≡ all_placed l.scope l.corners
