use Rattle.std.proofs.Common.{◌≡◌, ◌≤◌, ◌+◌, ◌*◌, drop}
use Rattle.std.specs.List.{flat_map}
use Rattle.cga_index.specs.Occlusion.{join}
use Rattle.cga_index.specs.Tree.{below, answer_over, reads, total}
use Rattle.cga_index.proofs.walk.visit_group.Given as goal

abbrev pub invariant-loop-block : goal.invariant-loop-block
invariant-loop-block g l =
    let v = g.H.HullTree.view l.tree in
    (join l.fn.before (answer_over v l.by l.target (flat_map (below v 257) (drop (256 * l.group) v.roots))) ≡ join l.found (answer_over v l.by l.target (flat_map (below v 257) (drop (16 * l.block) v.roots))))
    × (l.tests + total (reads v l.by 257) (drop (16 * l.block) v.roots) ≤ l.fn.tests + total (reads v l.by 257) (drop (256 * l.group) v.roots))
