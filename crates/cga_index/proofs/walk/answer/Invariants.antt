use Rattle.std.proofs.Common.{◌≡◌, ◌≤◌, ◌+◌, ◌*◌, drop}
use Rattle.std.specs.List.{flat_map}
use Rattle.cga_index.specs.Occlusion.{join}
use Rattle.cga_index.specs.Tree.{below, answer_over, reads, total}
use Rattle.cga_index.proofs.walk.answer.Given as goal

abbrev pub invariant-loop-group : goal.invariant-loop-group
invariant-loop-group g l =
    let v = g.H.HullTree.view l.tree in
    (answer_over v l.node l.target (flat_map (below v 257) v.roots) ≡ join l.found (answer_over v l.node l.target (flat_map (below v 257) (drop (256 * l.group) v.roots))))
    × (l.tests + total (reads v l.node 257) (drop (256 * l.group) v.roots) ≤ l.fn.tests + 1 + total (reads v l.node 257) v.roots)
