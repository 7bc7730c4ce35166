use Rattle.std.proofs.Common.{◌≡◌, ◌++◌, ◌*◌, drop}
use Rattle.std.specs.List.{flat_map}
use Rattle.cga_index.specs.Tree.{below, askers}
use Rattle.cga_index.proofs.listing.list_group.Given as goal

abbrev pub invariant-loop-block : goal.invariant-loop-block
invariant-loop-block g l =
    let v = g.H.HullTree.view l.tree in
    l.out.items ++ askers v l.area (flat_map (below v 257) (drop (16 * l.block) v.roots)) ≡ l.fn.out.items ++ askers v l.area (flat_map (below v 257) (drop (256 * l.group) v.roots))
