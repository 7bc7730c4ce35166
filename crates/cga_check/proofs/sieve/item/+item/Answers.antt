use Rattle.std.proofs.lemmas.Result.{err_from_is_err_and}
use Rattle.cga_check.specs.Uses.{body_uses, item_uses}
use Rattle.cga_check.proofs.Sifted.{sifted_on, sifted_stop, sifted_end}
use Rattle.cga_check.proofs.sieve.item.+item.Goals as goal

pub sift_items-loop-item-preserved : goal.sift_items-loop-item-preserved
sift_items-loop-item-preserved g t c = sifted_on item_uses _ _ _ c.item-item.result c.loop-item-test.true c.item-item.is _ _ (c.in_ok-sift_item.ensures {u = tt}) c.loop-item.invariant

pub sift_items-returns-in_err-sift_item : goal.sift_items-returns-in_err-sift_item
sift_items-returns-in_err-sift_item g t c =
    let p = err_from_is_err_and c.from_residual.result c.from_residual.ensures.1 in
    rw (p.1, p.2) (sifted_stop item_uses _ _ _ c.item-item.result c.loop-item-test.true c.item-item.is _ _ (c.in_err-sift_item.ensures {u = tt}) c.loop-item.invariant)

pub sift_items-returns : goal.sift_items-returns
sift_items-returns g t c = sifted_end item_uses _ _ _ _ c.loop-item-test.false c.loop-item.invariant

pub sift_bodies-loop-body-preserved : goal.sift_bodies-loop-body-preserved
sift_bodies-loop-body-preserved g t c = sifted_on body_uses _ _ _ c.body-item.result c.loop-body-test.true c.body-item.is _ _ (c.in_ok-sift_body.ensures {u = tt}) c.loop-body.invariant

pub sift_bodies-returns-in_err-sift_body : goal.sift_bodies-returns-in_err-sift_body
sift_bodies-returns-in_err-sift_body g t c =
    let p = err_from_is_err_and c.from_residual.result c.from_residual.ensures.1 in
    rw (p.1, p.2) (sifted_stop body_uses _ _ _ c.body-item.result c.loop-body-test.true c.body-item.is _ _ (c.in_err-sift_body.ensures {u = tt}) c.loop-body.invariant)

pub sift_bodies-returns : goal.sift_bodies-returns
sift_bodies-returns g t c = sifted_end body_uses _ _ _ _ c.loop-body-test.false c.loop-body.invariant
