use Rattle.cga_rule.specs.declared.grammar.Attribute.{Attribute}
use Rattle.cga_check.specs.Groups.{group}
use Rattle.cga_depend.specs.Agreement.{SameValue}
use Rattle.cga_depend.proofs.Lists.{all_more, all_end}
use Rattle.cga_depend.proofs.setting.same_among.Goals as goal

pub loop-attribute-preserved : goal.loop-attribute-preserved
loop-attribute-preserved c =
    all_more (λ (a : Attribute). SameValue (group c.args.new.now c.args.symbol) c.args.old.now c.args.new.now a.name) c.args.among.now c.loop-attribute.attribute-index c.attribute-item.result c.loop-attribute-test.true c.attribute-item.is c.loop-attribute.invariant (c.same_value.ensures.0 c.if-not-same_value.false)

pub returns : goal.returns
returns c = all_end (λ (a : Attribute). SameValue (group c.args.new.now c.args.symbol) c.args.old.now c.args.new.now a.name) c.args.among.now c.loop-attribute.attribute-index c.loop-attribute-test.false c.loop-attribute.invariant
