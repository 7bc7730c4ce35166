use Rattle.std.proofs.Common.{◌∙◌, sym}
use Rattle.cga_check.specs.Uses.{rule_uses}
use Rattle.cga_check.proofs.Firsts.{at_stop}
use Rattle.cga_check.proofs.checks.uses.check_uses.Goals as goal

pub returns-in-Ok : goal.returns-in-Ok
returns-in-Ok c = at_stop c.args.grammar.now c.args.rule.now (rule_uses c.args.rule.now) _ (sym c.in-Ok.is ∙ c.sift_rule.ensures)

pub returns-in-Err : goal.returns-in-Err
returns-in-Err c = c.check_use.ensures ∙ at_stop c.args.grammar.now c.args.rule.now (rule_uses c.args.rule.now) _ (sym c.in-Err.is ∙ c.sift_rule.ensures)
