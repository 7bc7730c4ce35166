use Rattle.std.proofs.Common.{ap, ◌∙◌}
use Rattle.cga_rule.specs.declared.grammar.Grammar.{Grammar}
use Rattle.cga_expand.proofs.Around.{by_entries}
use Rattle.cga_expand.proofs.Few.{few_made}
use Rattle.cga_expand.proofs.rules.expand_by_place.Goals as goal

pub returns-clause-value : goal.returns-clause-value
returns-clause-value g c =
    by_entries c.args.rules.now c.as_slice-attributes.result.now c.entries-entries.result.now c.args.shape.now c.args.answers.now c.counted.result
    (c.as_slice-attributes.ensures ∙ ap (λ (h : Grammar). h.attributes) c.grammar.ensures) c.entries-entries.ensures c.counted.ensures.value

pub returns-clause-few : goal.returns-clause-few
returns-clause-few g c = few_made c.args.rules.now c.args.shape.now c.args.answers.now c.counted.result (returns-clause-value g c)
