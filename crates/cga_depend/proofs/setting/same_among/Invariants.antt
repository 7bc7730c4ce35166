use Rattle.std.proofs.Common.{All, take}
use Rattle.cga_rule.specs.declared.grammar.Attribute.{Attribute}
use Rattle.cga_check.specs.Groups.{group}
use Rattle.cga_depend.specs.Agreement.{SameValue}
use Rattle.cga_depend.proofs.setting.same_among.Given as goal

abbrev pub invariant-loop-attribute : goal.invariant-loop-attribute
invariant-loop-attribute l = All (λ (a : Attribute). SameValue (group l.new l.symbol) l.old l.new a.name) (take l.attribute-index l.among)
