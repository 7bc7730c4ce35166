use Rattle.std.proofs.Common.{arith}
use Rattle.cga_index.specs.Tree.{all_nodes}
use Rattle.cga_index.proofs.Visiting.{next_visit, last_visit}
use Rattle.cga_index.proofs.visits.visit_all.Goals as goal

pub loop-place-init : goal.loop-place-init
loop-place-init g c = λ last h. h

pub loop-place-preserved : goal.loop-place-preserved
loop-place-preserved g c =
    let v = g.H.HullTree.view c.args.tree.now in
    next_visit (g.V.Visitor.steps c.args.tree.now) v 257 v.roots c.loop-place.place c.root_of-root.result _ c.loop-place.visitor _ c.root_of-root.ensures.at c.in_ok-visit_from.ensures c.loop-place.invariant

pub returns : goal.returns
unfolding all_nodes
returns g c =
    let v = g.H.HullTree.view c.args.tree.now in
    last_visit (g.V.Visitor.steps c.args.tree.now) v 257 v.roots c.loop-place.place _ c.loop-place.visitor (omega (arith, c.loop-place-test.false, c.roots-place-end.ensures)) c.loop-place.invariant
