use Rattle.std.proofs.Common.{arith}
use Rattle.cga_index.proofs.Visiting.{from_node, next_visit, last_visit}
use Rattle.cga_index.proofs.visits.+visiting.Goals as goal

pub visit_children-loop-place-init : goal.visit_children-loop-place-init
visit_children-loop-place-init g t c = λ last h. h

pub visit_children-loop-place-preserved : goal.visit_children-loop-place-preserved
visit_children-loop-place-preserved g t c =
    let v = g.H.HullTree.view c.args.tree.now in
    next_visit (g.V.Visitor.steps c.args.tree.now) v c.args.left (v.children c.args.node) c.loop-place.place c.child_of-child.result _ c.loop-place.visitor _ c.child_of-child.ensures.at c.in_ok-visit_from.ensures c.loop-place.invariant

pub visit_children-returns : goal.visit_children-returns
visit_children-returns g t c =
    let v = g.H.HullTree.view c.args.tree.now in
    last_visit (g.V.Visitor.steps c.args.tree.now) v c.args.left (v.children c.args.node) c.loop-place.place _ c.loop-place.visitor (omega (arith, c.loop-place-test.false, c.children-place-end.ensures)) c.loop-place.invariant

pub visit_from-returns : goal.visit_from-returns
visit_from-returns g t c =
    let low = c.requires.laws.shallow c.args.node c.requires.node in
    from_node (g.V.Visitor.steps c.args.tree.now) (g.H.HullTree.view c.args.tree.now) c.args.left c.args.node _ _ _ (omega (arith, low, c.requires.left)) c.in_ok-visit.ensures c.in_ok-visit_children.ensures
