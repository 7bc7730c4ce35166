use Rattle.std.proofs.lemmas.Result.{err_from_is_err_and}
use Rattle.cga_expr.proofs.Operands.{goes_on, has_no_operand, is_refused}
use Rattle.cga_expr.proofs.Layers.{added_layer, scaled_layer}
use Rattle.cga_expr.proofs.expr.+value.Goals as goal

pub value-loop-more-preserved : goal.value-loop-more-preserved
value-loop-more-preserved t c =
    goes_on _ _ _ _ _ c.more-item.result _ c.loop-more-test.true c.more-item.is _ _ (added_layer _) _ _ _
    (c.in_ok-term.ensures {u = tt}) (c.in_ok-sum-2.ensures {u = tt}) c.loop-more.invariant

pub value-returns-in_err-term : goal.value-returns-in_err-term
value-returns-in_err-term t c =
    let p = err_from_is_err_and c.from_residual-in_err-term.result c.from_residual-in_err-term.ensures.1 in
    rw (p.1, p.2) (has_no_operand _ _ _ _ _ c.more-item.result _ c.loop-more-test.true c.more-item.is _ _ (added_layer _) _ _
    (c.in_err-term.ensures {u = tt}) c.loop-more.invariant)

pub value-returns-in_err-sum-2 : goal.value-returns-in_err-sum-2
value-returns-in_err-sum-2 t c =
    let p = err_from_is_err_and c.from_residual-in_err-sum-2.result c.from_residual-in_err-sum-2.ensures.1 in
    rw (p.1, p.2) (is_refused _ _ _ _ _ c.more-item.result _ c.loop-more-test.true c.more-item.is _ _ (added_layer _) _ _ _
    (c.in_ok-term.ensures {u = tt}) (c.in_err-sum-2.ensures {u = tt}) c.loop-more.invariant)

pub term_value-loop-more-preserved : goal.term_value-loop-more-preserved
term_value-loop-more-preserved t c =
    goes_on _ _ _ _ _ c.more-item.result _ c.loop-more-test.true c.more-item.is _ _ (scaled_layer _) _ _ _
    (c.in_ok-factor.ensures {u = tt}) (c.in_ok-product-2.ensures {u = tt}) c.loop-more.invariant

pub term_value-returns-in_err-factor : goal.term_value-returns-in_err-factor
term_value-returns-in_err-factor t c =
    let p = err_from_is_err_and c.from_residual-in_err-factor.result c.from_residual-in_err-factor.ensures.1 in
    rw (p.1, p.2) (has_no_operand _ _ _ _ _ c.more-item.result _ c.loop-more-test.true c.more-item.is _ _ (scaled_layer _) _ _
    (c.in_err-factor.ensures {u = tt}) c.loop-more.invariant)

pub term_value-returns-in_err-product-2 : goal.term_value-returns-in_err-product-2
term_value-returns-in_err-product-2 t c =
    let p = err_from_is_err_and c.from_residual-in_err-product-2.result c.from_residual-in_err-product-2.ensures.1 in
    rw (p.1, p.2) (is_refused _ _ _ _ _ c.more-item.result _ c.loop-more-test.true c.more-item.is _ _ (scaled_layer _) _ _ _
    (c.in_ok-factor.ensures {u = tt}) (c.in_err-product-2.ensures {u = tt}) c.loop-more.invariant)
