use Rattle.std.proofs.Common.{◌≡◌, ◌∙◌, List, ap, refl, sym}
use Rattle.cga_asset.specs.Dressed.{dressed_mesh, is_over, with_drawn}
use Rattle.cga_shape.specs.declared.drawn.Drawn.{Drawn}
use Rattle.cga_top.specs.Prints.{in_lot, in_lots}
use Rattle.cga_top.proofs.OwnLots.{each_own}
use Rattle.cga_top.proofs.Sizes.{fits_limit, left_on, left_over, none_over, over_limit}
use Rattle.cga_top.proofs.models.is_large.Goals as goal

pub returns-in-Err : goal.returns-in-Err
returns-in-Err c =
    let mesh = dressed_mesh c.args.session.now.wardrobe in
    let city = c.args.session.now.city in
    let size = c.loop-lot.size in
    let drawn = c.as_slice.result.now in
    let same : drawn ≡ in_lot city c.lot-item.result = c.as_slice.ensures ∙ c.in_ok-drawn.ensures.value in
    let over = over_limit (with_drawn mesh drawn size) c.in-Err.field-0 c.in_ok-more.field-0 (is_over (with_drawn mesh drawn size)) refl (c.in_ok-more.ensures {u = tt}) c.in-Err.is in
    left_over mesh (in_lots city) (each_own city) c.args.lots.now c.loop-lot.lot-index c.lot-item.result size c.loop-lot.invariant.left c.loop-lot-test.true c.lot-item.is
    (ap (λ (ds : List Drawn). is_over (with_drawn mesh ds size)) (sym same) ∙ over)

pub loop-lot-preserved : goal.loop-lot-preserved
loop-lot-preserved c =
    let mesh = dressed_mesh c.args.session.now.wardrobe in
    let city = c.args.session.now.city in
    let size = c.loop-lot.size in
    let drawn = c.as_slice.result.now in
    let same : drawn ≡ in_lot city c.lot-item.result = c.as_slice.ensures ∙ c.in_ok-drawn.ensures.value in
    let fits = fits_limit (with_drawn mesh drawn size) c.in-Ok.more c.in_ok-more.field-0 (is_over (with_drawn mesh drawn size)) refl (c.in_ok-more.ensures {u = tt}) c.in-Ok.is in
    record {
      small = ap is_over fits.0 ∙ fits.1;
      left = left_on mesh (in_lots city) (each_own city) c.args.lots.now c.loop-lot.lot-index c.lot-item.result size c.loop-lot.invariant.left c.loop-lot-test.true c.lot-item.is
          c.in-Ok.more (fits.0 ∙ ap (λ (ds : List Drawn). with_drawn mesh ds size) same);
    }

pub returns : goal.returns
returns c =
    let city = c.args.session.now.city in
    none_over (dressed_mesh c.args.session.now.wardrobe) (in_lots city) (each_own city) c.args.lots.now c.loop-lot.lot-index c.loop-lot.size
    c.loop-lot.invariant.left c.loop-lot-test.false c.loop-lot.invariant.small
