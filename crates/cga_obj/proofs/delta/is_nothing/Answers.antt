use Rattle.std.proofs.Common.{rules}
use Rattle.cga_obj.proofs.DeltaTexts.{no_text, some_text}
use Rattle.cga_obj.proofs.delta.is_nothing.Goals as goal

pub returns-then-is_empty-clause-nothing : goal.returns-then-is_empty-clause-nothing
returns-then-is_empty-clause-nothing c = λ yes. no_text c.args.changes.now (c.is_empty.ensures.0 c.if-is_empty.true) (c.is_empty-then-is_empty.ensures.0 yes)

pub returns-then-is_empty-clause-some : goal.returns-then-is_empty-clause-some
returns-then-is_empty-clause-some c = λ no. some_text c.args.changes.now (λ g k. let yes = c.is_empty-then-is_empty.ensures.1 k in search rules)

pub returns-else-is_empty-clause-some : goal.returns-else-is_empty-clause-some
returns-else-is_empty-clause-some c = λ no. some_text c.args.changes.now (λ g k. let yes = c.is_empty.ensures.1 g in search rules)
