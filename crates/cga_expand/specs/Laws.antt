-- What is proved of expansions.
use Rattle.std.specs.Prelude.{◌≡◌, IsSome, Ok}
use Rattle.cga_word.specs.declared.answers.Answers.{Answers}
use Rattle.cga_rule.specs.declared.grammar.Grammar.{Grammar}
use Rattle.cga_rule.specs.declared.rule.Rule.{Rule}
use Rattle.cga_check.specs.Faults.{IsValid}
use Rattle.cga_shape.specs.declared.shape.Shape.{Shape}
use Rattle.cga_expand.specs.Expand.{rules_by_id}
use Rattle.cga_expand.specs.Rules.{chosen, drawn_number, picked}

-- in a valid grammar, the rule that a shape takes has an alternative for its number
abbrev pub AlternativesCover : Type 0
AlternativesCover =
    (grammar : Grammar) → IsValid grammar → (shape : Shape) (answers : Answers) (rule : Rule)
    → chosen grammar.attributes shape answers (rules_by_id grammar shape.symbol) ≡ Ok rule
    → IsSome (picked (drawn_number shape) 0 rule.alternatives)
