use Rattle.std.proofs.Common.{◌≡◌, ◌≤◌, ◌+◌, ◌*◌, drop}
use Rattle.std.specs.List.{flat_map}
use Rattle.cga_index.specs.Occlusion.{join}
use Rattle.cga_index.specs.Tree.{below, answer_over, reads, total}
use Rattle.cga_index.proofs.walk.+visit.Given as goal

abbrev pub decreases-visit : goal.decreases-visit
decreases-visit g l = 2 * l.left

abbrev pub decreases-visit_children : goal.decreases-visit_children
decreases-visit_children g l = 2 * l.left + 1

abbrev pub invariant-visit_children-loop-place : goal.invariant-visit_children-loop-place
invariant-visit_children-loop-place g l =
    let v = g.H.HullTree.view l.tree in
    (join l.fn.before (answer_over v l.by l.target (flat_map (below v l.left) (v.children l.node))) ≡ join l.found (answer_over v l.by l.target (flat_map (below v l.left) (drop l.place (v.children l.node)))))
    × (l.tests + total (reads v l.by l.left) (drop l.place (v.children l.node)) ≤ l.fn.tests + total (reads v l.by l.left) (v.children l.node))
