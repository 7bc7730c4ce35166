-- What a shape's answers and expansion read of a grammar.
use Rattle.std.specs.Prelude.{◌≡◌, ℕ, List, Bool, false, Option, Some, None, if◌then◌else◌}
use Rattle.cga_fraction.specs.Rat.{Rat}
use Rattle.cga_word.specs.declared.answers.Answers.{Answers}
use Rattle.cga_rule.specs.declared.grammar.Grammar.{Grammar}
use Rattle.cga_rule.specs.declared.grammar.Group.{Group}
use Rattle.cga_check.specs.Groups.{group, mentions_attribute}
use Rattle.cga_expr.specs.Names.{attribute_of}
use Rattle.cga_shape.specs.declared.shape.Shape.{Shape}
use Rattle.cga_expand.specs.Asked.{answers_of}
use Rattle.cga_expand.specs.Derivation.{children_of}
use Rattle.cga_expand.specs.Expand.{expand_of}

-- the group of a symbol, and the values of the attributes that it mentions
pub record Setting : Type 0 where
  pub group : Option Group
  -- by name; none where it isn't mentioned
  pub values : List ℕ → Option Rat

abbrev pub mentions : Option Group → List ℕ → Bool
mentions None name = false
mentions (Some rules) name = mentions_attribute rules name

-- the setting of the shapes of a symbol
unfoldable pub setting_of : Grammar → List ℕ → Setting
setting_of grammar symbol = record {
  group = group grammar symbol;
  values = λ name. if mentions (group grammar symbol) name then attribute_of grammar.attributes name else None;
}

-- shapes of equal setting have equal answers of equal shapes, and become the same by equal answers
abbrev pub SettingsDecide : Type 0
SettingsDecide =
    (old new : Grammar) (s : Shape) → setting_of old s.symbol ≡ setting_of new s.symbol
    → ((existing waiting : List Shape) → answers_of old s existing waiting ≡ answers_of new s existing waiting)
    × ((answers : Answers) → expand_of old s answers ≡ expand_of new s answers)
    × ((answers : Answers) → children_of old s answers ≡ children_of new s answers)
