-- The choice of a rule among rules that stand in any order.
use Rattle.std.specs.Prelude.{ℕ, List, [], ◌∷◌, Bool, true, Option, Some, None, Result, Ok, Err, nat_lt, if◌then◌else◌}
use Rattle.std.specs.Result.{result_map_both}
use Rattle.cga_word.specs.declared.answers.Answers.{Answers}
use Rattle.cga_rule.specs.declared.grammar.Attribute.{Attribute}
use Rattle.cga_rule.specs.declared.rule.Rule.{Rule}
use Rattle.cga_shape.specs.declared.shape.Shape.{Shape}
use Rattle.cga_shape.specs.declared.shape_fault.ShapeFault.{ShapeFault}
use Rattle.cga_shape.specs.declared.shape_fault.ShapeFault.TheVariants.{Unmatched}
use Rattle.cga_expand.specs.declared.choice.Choice.{Choice}
use Rattle.cga_expand.specs.Rules.{optional_holds, known_to}

-- what the rules looked at so far come to, and the id of the one that gave it
pub record Found : Type 0 where
  pub id : Option ℕ
  pub rule : Result Rule ShapeFault

-- what a choice refers to
abbrev pub found_of : Choice → Found
found_of choice = record { id = choice.id; rule = result_map_both (λ rule. rule.now) (λ fault. fault) choice.rule }

-- no rule at all
abbrev pub nothing : Found
nothing = record { id = None; rule = Err Unmatched }

-- before the rule that was found, by its id
abbrev pub comes_first : ℕ → Option ℕ → Bool
comes_first id None = true
comes_first id (Some other) = nat_lt id other

-- a condition that holds, or is refused, ends the choosing
abbrev pub judged : Found → Rule → Result Bool ShapeFault → Found
judged found rule (Ok holds) = if holds then record { id = Some rule.id; rule = Ok rule } else found
judged found rule (Err fault) = record { id = Some rule.id; rule = Err fault }

-- a rule of no smaller id isn't tried any more
abbrev pub tried : List Attribute → Shape → Answers → Found → Rule → Found
tried attributes shape answers found rule =
    if comes_first rule.id found.id then judged found rule (optional_holds rule.cond (known_to attributes shape rule) answers) else found

abbrev pub tried_all : List Attribute → Shape → Answers → Found → List Rule → Found
tried_all attributes shape answers found [] = found
tried_all attributes shape answers found (rule ∷ rules) = tried_all attributes shape answers (tried attributes shape answers found rule) rules
