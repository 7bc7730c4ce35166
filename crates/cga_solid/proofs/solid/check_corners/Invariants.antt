use Rattle.std.proofs.Common.{◌≡◌, drop}
use Rattle.cga_solid.specs.Solids.{all_placed, fault_of}
use Rattle.cga_solid.proofs.solid.check_corners.Given as goal

abbrev pub invariant-loop-corner : goal.invariant-loop-corner
invariant-loop-corner l = fault_of (all_placed l.scope (drop l.corner-index l.corners)) ≡ fault_of (all_placed l.scope l.corners)
