use Rattle.std.proofs.Common.{ap, ◌∙◌}
use Rattle.cga_check.specs.Said.{said}
use Rattle.cga_update.proofs.Facts.{on_value}
use Rattle.cga_update.proofs.turn.said_at.Goals as goal

pub returns-clause-told : goal.returns-clause-told
returns-clause-told c = on_value c.of.result (λ told is d here. is ∙ ap (said c.args.work.now.symbols) (c.symbol_at-symbol.ensures d here)) c.of.ensures.value

pub returns-clause-same : goal.returns-clause-same
returns-clause-same c = λ i. record c.args.work.now { rules = c.find.ensures i; symbols = c.of.ensures.grammar i }

pub returns-in_err-find-clause-same : goal.returns-in_err-find-clause-same
returns-in_err-find-clause-same c = λ i. record c.args.work.now { rules = c.find.ensures i }
