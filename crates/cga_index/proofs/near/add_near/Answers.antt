use Rattle.cga_fraction.proofs.Door.{slice_get_from_get_or}
use Rattle.cga_index.proofs.NearAskers.{all_areas, around_all, one_area}
use Rattle.cga_index.proofs.near.add_near.Goals as goal

pub returns-in-Some : goal.returns-in-Some
returns-in-Some g c = around_all (g.H.HullTree.view c.args.tree.now) c.args.areas.now c.requires.laws c.in-Some.around c.args.near.now.items c.add_within.new.near.items c.in-Some.ensures c.in_ok-add_within.ensures

pub loop-area-preserved : goal.loop-area-preserved
loop-area-preserved g c =
    let areas = c.args.areas.now in
    let at = slice_get_from_get_or areas c.loop-area.area-index c.area-item.result c.loop-area-test.true c.area-item.is in
    one_area (g.H.HullTree.view c.args.tree.now) areas c.loop-area.area-index c.area-item.result c.args.near.now.items c.loop-area.near.items c.add_within-in-loop-area.new.near.items at c.loop-area.invariant c.in_ok-add_within-2.ensures

pub returns : goal.returns
returns g c = all_areas (g.H.HullTree.view c.args.tree.now) c.args.areas.now c.loop-area.area-index c.args.near.now.items c.loop-area.near.items c.loop-area-test.false c.loop-area.invariant
