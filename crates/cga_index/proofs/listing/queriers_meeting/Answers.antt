use Rattle.std.proofs.Common.{◌∙◌, ◌*◌, arith, subst, sym}
use Rattle.cga_index.specs.Tree.{all_nodes, ListsAskers}
use Rattle.cga_index.proofs.Askers.{list_end, lists_askers}
use Rattle.cga_index.proofs.listing.queriers_meeting.Goals as goal

pub loop-group-preserved : goal.loop-group-preserved
loop-group-preserved g c = c.in_ok-list_group.ensures ∙ c.loop-group.invariant

pub returns : goal.returns
unfolding all_nodes
returns g c =
    let v = g.H.HullTree.view c.args.tree.now in
    rw c.from_vec.ensures (subst (ListsAskers v c.args.area.now) (sym (list_end v c.args.area.now 257 v.roots (256 * c.loop-group.group) c.loop-group.out.items _ (omega (arith, c.loop-group-test.false, c.roots.ensures)) c.loop-group.invariant)) (lists_askers v c.requires.laws c.args.area.now))
