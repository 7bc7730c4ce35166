use Rattle.std.proofs.Common.{length}
use Rattle.cga_index.proofs.NearAskers.{IsDoneBefore}
use Rattle.cga_index.proofs.near.queriers_near.Given as goal

abbrev pub invariant-loop-rest : goal.invariant-loop-rest
invariant-loop-rest g l = IsDoneBefore (g.H.HullTree.view l.tree) l.areas l.rest l.near.items

abbrev pub decreases-loop-rest : goal.decreases-loop-rest
decreases-loop-rest g l = length l.rest
