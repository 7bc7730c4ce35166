use Rattle.std.proofs.Common.{◌≡◌, ◌++◌, ◌+◌, ◌*◌, drop}
use Rattle.std.specs.List.{flat_map}
use Rattle.cga_index.specs.Tree.{below, askers}
use Rattle.cga_index.proofs.listing.+listing.Given as goal

abbrev pub decreases-list_from : goal.decreases-list_from
decreases-list_from g l = 2 * l.left

abbrev pub decreases-list_children : goal.decreases-list_children
decreases-list_children g l = 2 * l.left + 1

abbrev pub invariant-list_children-loop-place : goal.invariant-list_children-loop-place
invariant-list_children-loop-place g l =
    let v = g.H.HullTree.view l.tree in
    l.out.items ++ askers v l.area (flat_map (below v l.left) (drop l.place (v.children l.node))) ≡ l.fn.out.items ++ askers v l.area (flat_map (below v l.left) (v.children l.node))
