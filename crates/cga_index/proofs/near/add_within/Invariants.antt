use Rattle.cga_index.specs.Near.{AddsThese}
use Rattle.cga_index.proofs.NearAskers.{NearFirst}
use Rattle.cga_index.proofs.near.add_within.Given as goal

abbrev pub invariant-loop-id : goal.invariant-loop-id
invariant-loop-id g l = AddsThese (NearFirst (g.H.HullTree.view l.tree) l.areas l.id-items l.id-index) l.fn.near.items l.near.items
