use Rattle.std.proofs.Common.{◌≡◌, [], eqb-true, length, subst, sym}
use Rattle.std.proofs.lemmas.List.{nil_from_length}
use Rattle.cga_index.specs.Near.{ListsNear}
use Rattle.cga_index.proofs.NearAskers.{all_done, cut, one_piece}
use Rattle.cga_index.proofs.near.queriers_near.Goals as goal

pub loop-rest-preserved : goal.loop-rest-preserved
loop-rest-preserved g c =
    let v = g.H.HullTree.view c.args.tree.now in
    let whole = cut c.loop-rest.rest.now c.min.result c.split_at.result.0.now c.split_at.result.1.now c.split_at.ensures.front c.split_at.ensures.back in
    one_piece v c.args.areas.now c.loop-rest.rest.now c.split_at.result.0.now c.split_at.result.1.now c.loop-rest.near.items c.add_near.new.near.items whole c.loop-rest.invariant c.in_ok-add_near.ensures

pub returns : goal.returns
returns g c =
    let v = g.H.HullTree.view c.args.tree.now in
    let rest = c.loop-rest.rest.now in
    let none : rest ≡ [] = nil_from_length rest (eqb-true (length rest) 0 (sym c.loop-rest-test.ensures)) in
    subst (ListsNear v c.args.areas.now) (sym c.from_vec.ensures) (all_done v c.args.areas.now rest c.loop-rest.near.items none c.loop-rest.invariant)
