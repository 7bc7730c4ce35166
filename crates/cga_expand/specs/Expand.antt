-- What a shape becomes by a grammar.
use Rattle.std.specs.Prelude.{ℕ, List, Result}
use Rattle.cga_word.specs.declared.answers.Answers.{Answers}
use Rattle.cga_rule.specs.declared.grammar.Grammar.{Grammar}
use Rattle.cga_rule.specs.declared.rule.Rule.{Rule}
use Rattle.cga_check.specs.Groups.{rules_of, by_id}
use Rattle.cga_shape.specs.declared.emitted.Emitted.{Emitted}
use Rattle.cga_shape.specs.declared.shape.Shape.{Shape}
use Rattle.cga_shape.specs.declared.shape_fault.ShapeFault.{ShapeFault}
use Rattle.cga_expand.specs.Rules.{expansion}

-- the rules of a symbol by rising id, as its group has them; none where it has no group
abbrev pub rules_by_id : Grammar → List ℕ → List Rule
rules_by_id grammar symbol = by_id (rules_of grammar.rules symbol)

-- the emitted children, or the first fault in reading order
unfoldable pub expand_of : Grammar → Shape → Answers → Result (List Emitted) ShapeFault
expand_of grammar shape answers = expansion grammar.attributes (rules_by_id grammar shape.symbol) shape answers
