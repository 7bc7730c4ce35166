use Rattle.std.proofs.lemmas.Result.{err_from_is_err_and}
use Rattle.cga_check.specs.Faults.{rule_faults}
use Rattle.cga_check.proofs.Firsts.{after_on, after_stop, after_end}
use Rattle.cga_check.proofs.checks.check_rules.Goals as goal

pub loop-i-preserved : goal.loop-i-preserved
loop-i-preserved c =
    after_on (rule_faults c.args.grammar.now) _ _ c.index-entries-i.result c.loop-i-test.true c.index-entries-i.is _ _ (c.in_ok-check_rule.ensures {u = tt}) c.loop-i.invariant

pub returns-in_err-check_rule : goal.returns-in_err-check_rule
returns-in_err-check_rule c =
    let p = err_from_is_err_and c.from_residual.result c.from_residual.ensures.1 in
    rw (p.1, p.2) (after_stop (rule_faults c.args.grammar.now) _ _ c.index-entries-i.result c.loop-i-test.true c.index-entries-i.is _ _ (c.in_err-check_rule.ensures {u = tt}) c.loop-i.invariant)

pub returns : goal.returns
returns c = after_end (rule_faults c.args.grammar.now) _ _ _ _ c.loop-i-test.false c.loop-i.invariant
