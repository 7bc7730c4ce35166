use Rattle.std.proofs.lemmas.Result.{err_from_is_err_and}
use Rattle.cga_check.specs.Uses.{added_uses, scaled_uses}
use Rattle.cga_check.proofs.Sifted.{sifted_on, sifted_stop, sifted_end}
use Rattle.cga_check.proofs.sieve.expr.+expr.Goals as goal

pub sift_all_added-loop-added-preserved : goal.sift_all_added-loop-added-preserved
sift_all_added-loop-added-preserved g t c = sifted_on added_uses _ _ _ c.added-item.result c.loop-added-test.true c.added-item.is _ _ (c.in_ok-sift_added.ensures {u = tt}) c.loop-added.invariant

pub sift_all_added-returns-in_err-sift_added : goal.sift_all_added-returns-in_err-sift_added
sift_all_added-returns-in_err-sift_added g t c =
    let p = err_from_is_err_and c.from_residual.result c.from_residual.ensures.1 in
    rw (p.1, p.2) (sifted_stop added_uses _ _ _ c.added-item.result c.loop-added-test.true c.added-item.is _ _ (c.in_err-sift_added.ensures {u = tt}) c.loop-added.invariant)

pub sift_all_added-returns : goal.sift_all_added-returns
sift_all_added-returns g t c = sifted_end added_uses _ _ _ _ c.loop-added-test.false c.loop-added.invariant

pub sift_all_scaled-loop-scaled-preserved : goal.sift_all_scaled-loop-scaled-preserved
sift_all_scaled-loop-scaled-preserved g t c = sifted_on scaled_uses _ _ _ c.scaled-item.result c.loop-scaled-test.true c.scaled-item.is _ _ (c.in_ok-sift_scaled.ensures {u = tt}) c.loop-scaled.invariant

pub sift_all_scaled-returns-in_err-sift_scaled : goal.sift_all_scaled-returns-in_err-sift_scaled
sift_all_scaled-returns-in_err-sift_scaled g t c =
    let p = err_from_is_err_and c.from_residual.result c.from_residual.ensures.1 in
    rw (p.1, p.2) (sifted_stop scaled_uses _ _ _ c.scaled-item.result c.loop-scaled-test.true c.scaled-item.is _ _ (c.in_err-sift_scaled.ensures {u = tt}) c.loop-scaled.invariant)

pub sift_all_scaled-returns : goal.sift_all_scaled-returns
sift_all_scaled-returns g t c = sifted_end scaled_uses _ _ _ _ c.loop-scaled-test.false c.loop-scaled.invariant
