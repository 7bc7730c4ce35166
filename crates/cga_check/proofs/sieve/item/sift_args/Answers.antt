use Rattle.std.proofs.lemmas.Result.{err_from_is_err_and}
use Rattle.cga_check.specs.Uses.{expr_uses}
use Rattle.cga_check.proofs.Sifted.{sifted_on, sifted_stop, sifted_end}
use Rattle.cga_check.proofs.sieve.item.sift_args.Goals as goal

pub loop-arg-preserved : goal.loop-arg-preserved
loop-arg-preserved g c = sifted_on expr_uses _ _ _ c.arg-item.result c.loop-arg-test.true c.arg-item.is _ _ (c.in_ok-sift_expr.ensures {u = tt}) c.loop-arg.invariant

pub returns-in_err-sift_expr : goal.returns-in_err-sift_expr
returns-in_err-sift_expr g c =
    let p = err_from_is_err_and c.from_residual.result c.from_residual.ensures.1 in
    rw (p.1, p.2) (sifted_stop expr_uses _ _ _ c.arg-item.result c.loop-arg-test.true c.arg-item.is _ _ (c.in_err-sift_expr.ensures {u = tt}) c.loop-arg.invariant)

pub returns : goal.returns
returns g c = sifted_end expr_uses _ _ _ _ c.loop-arg-test.false c.loop-arg.invariant
