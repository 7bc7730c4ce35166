-- `==` of rules by names for clauses, and what it tells.
use Rattle.std.specs.Prelude.{◌≡◌, ◌↔◌, Bool, true}
use Rattle.cga_rule.specs.declared.cond.Cond.{Cond}
use Rattle.cga_rule.specs.declared.grammar.Group.{Group}
use Rattle.cga_rule.specs.declared.item.Item.{Item}
use Rattle.cga_rule.specs.declared.rule.Alternative.{Alternative}
use Rattle.cga_rule.specs.declared.rule.Rule.{Rule}
use Rattle.cga_rule.specs.contracts.cond.CondPartialEq.TheImpl as cond
use Rattle.cga_rule.specs.contracts.item.ItemPartialEq.TheImpl as item
use Rattle.cga_rule.specs.contracts.rule.AlternativePartialEq.TheImpl as alternative
use Rattle.cga_rule.specs.contracts.rule.RulePartialEq.TheImpl as rule
use Rattle.cga_rule.specs.contracts.grammar.GroupPartialEq.TheImpl as group

abbrev pub same_cond : Cond → Cond → Bool
same_cond = (cond.ghosts).eq

abbrev pub same_item : Item → Item → Bool
same_item = (item.ghosts).eq

abbrev pub same_alternative : Alternative → Alternative → Bool
same_alternative = (alternative.ghosts).eq

abbrev pub same_rule : Rule → Rule → Bool
same_rule = (rule.ghosts).eq

abbrev pub same_group : Group → Group → Bool
same_group = (group.ghosts).eq

-- it tells exactly whether the two are equal
pub record EqualExactly : Type 0 where
  pub rules : (a b : Rule) → (same_rule a b ≡ true) ↔ (a ≡ b)
  pub groups : (a b : Group) → (same_group a b ≡ true) ↔ (a ≡ b)
