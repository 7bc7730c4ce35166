use Rattle.std.proofs.Common.{ap, subst}
use Rattle.cga_depend.specs.Both.{BothGrammars}
use Rattle.cga_depend.specs.Changed.{AreFacts}
use Rattle.cga_update.proofs.Facts.{on_value}
use Rattle.cga_update.proofs.turn.facts_at.Goals as goal

pub returns-clause-facts : goal.returns-clause-facts
returns-clause-facts c = on_value c.of.result (λ facts are d here. subst (λ symbol. AreFacts c.args.work.now.grammars.before c.args.work.now.grammars.after symbol facts) (c.symbol_at-symbol.ensures d here) are) c.of.ensures.facts

pub returns-clause-same : goal.returns-clause-same
returns-clause-same c = ap (λ (g : BothGrammars). record c.args.work.now { grammars = g }) c.of.ensures.grammars
