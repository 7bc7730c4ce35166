use Rattle.std.proofs.Common.{◌≡◌, ◌++◌, ◌*◌, drop}
use Rattle.std.specs.List.{flat_map}
use Rattle.cga_index.specs.Tree.{below, askers}
use Rattle.cga_index.proofs.listing.queriers_meeting.Given as goal

abbrev pub invariant-loop-group : goal.invariant-loop-group
invariant-loop-group g l =
    let v = g.H.HullTree.view l.tree in
    l.out.items ++ askers v l.area (flat_map (below v 257) (drop (256 * l.group) v.roots)) ≡ askers v l.area (flat_map (below v 257) v.roots)
