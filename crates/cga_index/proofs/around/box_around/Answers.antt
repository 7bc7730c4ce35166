use Rattle.std.proofs.Common.{sym, subst}
use Rattle.cga_fraction.proofs.Door.{slice_get_from_get_or}
use Rattle.std.specs.Prelude.{IfSome}
use Rattle.cga_index.specs.Around.{IsAround}
use Rattle.cga_index.proofs.Widening.{holds_more, is_around}
use Rattle.cga_index.proofs.around.box_around.Goals as goal

pub loop-area-preserved : goal.loop-area-preserved
loop-area-preserved c =
    let areas = c.args.areas.now in
    let item = slice_get_from_get_or areas c.loop-area.area-index c.area-item.result c.loop-area-test.true c.area-item.is in
    holds_more areas c.loop-area.area-index c.area-item.result c.loop-area.hull c.hull-hull.result item c.hull-hull.ensures.least c.loop-area.invariant

pub returns : goal.returns
returns c = subst (λ o. IfSome o (IsAround c.args.areas.now)) (sym c.ok.ensures.value) (is_around c.args.areas.now c.loop-area.area-index c.loop-area.hull c.widened.result c.loop-area-test.false c.loop-area.invariant c.widened.ensures)
