use Rattle.std.proofs.lemmas.Result.{err_from_is_err_and}
use Rattle.cga_check.specs.Uses.{size_uses}
use Rattle.cga_check.proofs.Sifted.{sifted_on, sifted_stop, sifted_end}
use Rattle.cga_check.proofs.sieve.item.sift_sizes.Goals as goal

pub loop-size-preserved : goal.loop-size-preserved
loop-size-preserved g c = sifted_on size_uses _ _ _ c.size-item.result c.loop-size-test.true c.size-item.is _ _ (c.in_ok-sift_size.ensures {u = tt}) c.loop-size.invariant

pub returns-in_err-sift_size : goal.returns-in_err-sift_size
returns-in_err-sift_size g c =
    let p = err_from_is_err_and c.from_residual.result c.from_residual.ensures.1 in
    rw (p.1, p.2) (sifted_stop size_uses _ _ _ c.size-item.result c.loop-size-test.true c.size-item.is _ _ (c.in_err-sift_size.ensures {u = tt}) c.loop-size.invariant)

pub returns : goal.returns
returns g c = sifted_end size_uses _ _ _ _ c.loop-size-test.false c.loop-size.invariant
