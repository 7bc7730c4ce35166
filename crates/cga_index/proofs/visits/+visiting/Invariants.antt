use Rattle.std.proofs.Common.{◌+◌, ◌*◌}
use Rattle.cga_index.proofs.Visiting.{IsVisiting}
use Rattle.cga_index.proofs.visits.+visiting.Given as goal

abbrev pub decreases-visit_from : goal.decreases-visit_from
decreases-visit_from g l = 2 * l.left

abbrev pub decreases-visit_children : goal.decreases-visit_children
decreases-visit_children g l = 2 * l.left + 1

abbrev pub invariant-visit_children-loop-place : goal.invariant-visit_children-loop-place
invariant-visit_children-loop-place g l =
    let v = g.H.HullTree.view l.tree in
    IsVisiting (g.V.Visitor.steps l.tree) v l.left (v.children l.node) l.place l.fn.visitor l.visitor
