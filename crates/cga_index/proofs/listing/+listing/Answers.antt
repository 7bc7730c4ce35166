use Rattle.std.proofs.Common.{arith}
use Rattle.cga_index.proofs.Askers.{from_end, list_step, list_end}
use Rattle.cga_index.proofs.listing.+listing.Goals as goal

pub list_children-loop-place-preserved : goal.list_children-loop-place-preserved
list_children-loop-place-preserved g t c =
    let v = g.H.HullTree.view c.args.tree.now in
    list_step v c.args.area.now c.args.left (v.children c.args.node) c.loop-place.place c.child_of-child.result c.loop-place.out.items c.list_from.new.out.items _ c.child_of-child.ensures.at c.in_ok-list_from.ensures c.loop-place.invariant

pub list_children-returns : goal.list_children-returns
list_children-returns g t c =
    let v = g.H.HullTree.view c.args.tree.now in
    list_end v c.args.area.now c.args.left (v.children c.args.node) c.loop-place.place c.loop-place.out.items _ (omega (arith, c.loop-place-test.false, c.children-children.ensures)) c.loop-place.invariant

pub list_from-returns : goal.list_from-returns
list_from-returns g t c =
    let low = c.requires.laws.shallow c.args.node c.requires.node in
    from_end (g.H.HullTree.view c.args.tree.now) c.args.area.now c.args.left c.args.node c.args.out.now.items c.list_one.new.out.items c.list_children.new.out.items (omega (arith, low, c.requires.left)) c.in_ok-list_one.ensures c.in_ok-list_children.ensures
