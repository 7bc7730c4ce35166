use Rattle.std.proofs.Common.{◌≡◌, ◌≤◌, ◌+◌, ◌*◌, drop}
use Rattle.std.specs.List.{flat_map}
use Rattle.cga_index.specs.Occlusion.{join}
use Rattle.cga_index.specs.Tree.{below, answer_over, reads, total}
use Rattle.cga_index.proofs.walk.visit_block.Given as goal

abbrev pub invariant-loop-place : goal.invariant-loop-place
invariant-loop-place g l =
    let v = g.H.HullTree.view l.tree in
    (join l.fn.before (answer_over v l.by l.target (flat_map (below v 257) (drop (16 * l.block) v.roots))) ≡ join l.found (answer_over v l.by l.target (flat_map (below v 257) (drop l.place v.roots))))
    × (l.tests + total (reads v l.by 257) (drop l.place v.roots) ≤ l.fn.tests + total (reads v l.by 257) (drop (16 * l.block) v.roots))
