use Rattle.cga_index.specs.Near.{AddsThese}
use Rattle.cga_index.proofs.NearAskers.{MeetsFirst}
use Rattle.cga_index.proofs.near.add_near.Given as goal

abbrev pub invariant-loop-area : goal.invariant-loop-area
invariant-loop-area g l = AddsThese (MeetsFirst (g.H.HullTree.view l.tree) l.areas l.area-index) l.fn.near.items l.near.items
