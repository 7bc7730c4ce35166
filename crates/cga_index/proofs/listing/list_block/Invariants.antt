use Rattle.std.proofs.Common.{◌≡◌, ◌++◌, ◌*◌, drop}
use Rattle.std.specs.List.{flat_map}
use Rattle.cga_index.specs.Tree.{below, askers}
use Rattle.cga_index.proofs.listing.list_block.Given as goal

abbrev pub invariant-loop-place : goal.invariant-loop-place
invariant-loop-place g l =
    let v = g.H.HullTree.view l.tree in
    l.out.items ++ askers v l.area (flat_map (below v 257) (drop l.place v.roots)) ≡ l.fn.out.items ++ askers v l.area (flat_map (below v 257) (drop (16 * l.block) v.roots))
