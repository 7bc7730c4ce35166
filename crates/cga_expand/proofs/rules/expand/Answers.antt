use Rattle.std.proofs.Common.{ap, List}
use Rattle.cga_check.specs.Groups.{rules_of}
use Rattle.cga_rule.specs.declared.grammar.Entry.{Entry}
use Rattle.cga_expand.proofs.Around.{by_entries}
use Rattle.cga_expand.proofs.Few.{few_made}
use Rattle.cga_expand.proofs.rules.expand.Goals as goal

pub returns-clause-value : goal.returns-clause-value
returns-clause-value g c =
    by_entries c.args.grammar.now c.as_slice-attributes.result.now c.as_slice-entries.result.now c.args.shape.now c.args.answers.now c.counted.result c.as_slice-attributes.ensures
    (ap (λ (es : List Entry). rules_of es c.args.shape.now.symbol) c.as_slice-entries.ensures) c.counted.ensures.value

pub returns-clause-few : goal.returns-clause-few
returns-clause-few g c = few_made c.args.grammar.now c.args.shape.now c.args.answers.now c.counted.result (returns-clause-value g c)
