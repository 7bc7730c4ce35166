use Rattle.std.proofs.lemmas.Result.{err_from_is_err_and}
use Rattle.cga_check.specs.Faults.{param_faults}
use Rattle.cga_check.proofs.Firsts.{after_on, after_stop, after_end}
use Rattle.cga_check.proofs.checks.head.check_params.Goals as goal

pub loop-i-preserved : goal.loop-i-preserved
loop-i-preserved c =
    after_on (param_faults c.args.grammar.now c.args.id) _ _ c.index-params-i.result c.loop-i-test.true c.index-params-i.is _ _ (c.in_ok-check_param.ensures {u = tt}) c.loop-i.invariant

pub returns-in_err-check_param : goal.returns-in_err-check_param
returns-in_err-check_param c =
    let p = err_from_is_err_and c.from_residual.result c.from_residual.ensures.1 in
    rw (p.1, p.2) (after_stop (param_faults c.args.grammar.now c.args.id) _ _ c.index-params-i.result c.loop-i-test.true c.index-params-i.is _ _ (c.in_err-check_param.ensures {u = tt}) c.loop-i.invariant)

pub returns : goal.returns
returns c = after_end (param_faults c.args.grammar.now c.args.id) _ _ _ _ c.loop-i-test.false c.loop-i.invariant
