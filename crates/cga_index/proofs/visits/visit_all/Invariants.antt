use Rattle.cga_index.proofs.Visiting.{IsVisiting}
use Rattle.cga_index.proofs.visits.visit_all.Given as goal

abbrev pub invariant-loop-place : goal.invariant-loop-place
invariant-loop-place g l =
    let v = g.H.HullTree.view l.tree in
    IsVisiting (g.V.Visitor.steps l.tree) v 257 v.roots l.place l.fn.visitor l.visitor
