-- Whether the old and the new grammar of an edit say the same of a symbol.
use Rattle.std.specs.Prelude.{◌≡◌, ◌↔◌, ◌⊎◌, ℕ, List, Some, IsTrue, Bool, true, nat_eq, unwrap_or}
use Rattle.indexmap.specs.IndexMap.{IndexMap, get}
use lib.Pointwise.{pointwise}
use Rattle.cga_order.specs.World.{Among}
use Rattle.cga_rule.specs.declared.grammar.Grammar.{Grammar}
use Rattle.cga_check.specs.Groups as groups
use Rattle.cga_check.specs.Latest.{AreKept}
use Rattle.cga_check.specs.declared.latest.Latest.{Latest}
use Rattle.cga_rule.specs.declared.grammar.Attribute.{Attribute}
use Rattle.cga_depend.specs.Agreement.{IsSameSetting}
use Rattle.cga_depend.specs.Ends.{AreApart}
use Rattle.cga_depend.specs.declared.changed.Facts.{Facts}

-- the priority of the shapes of a symbol: 0 where it has no rule
abbrev pub priority_at : Grammar → List ℕ → ℕ
priority_at grammar symbol = unwrap_or (groups.priority_of grammar symbol) 0

-- the facts are those of the symbol
pub record AreFacts (old new : Grammar) (symbol : List ℕ) (facts : Facts) : Type 0 where
  pub setting : IsTrue facts.same_setting ↔ IsSameSetting old new symbol
  pub priorities : IsTrue facts.same_priority ↔ (priority_at old symbol ≡ priority_at new symbol)

-- what stands in the map are the facts of its symbol
abbrev pub AreKnown : {S : Type 0} → Grammar → Grammar → IndexMap (List ℕ) Facts S → Type 0
AreKnown old new known =
    (symbol : List ℕ) (facts : Facts) → get (pointwise nat_eq) known symbol ≡ Some facts
    → AreFacts old new symbol facts

-- the grammars have one list of rules where that is said, these are what their attributes don't share, and what stands in the
-- map or is kept of the latest symbols is right
pub record AreCompared {S : Type 0} (old new : Grammar) (same_rules : Bool) (from to : List Attribute) (known : IndexMap (List ℕ) Facts S) (latest : Latest Facts) : Type 0 where
  pub rules : same_rules ≡ true → old.rules ≡ new.rules
  pub apart : AreApart old.attributes new.attributes from to
  pub facts : AreKnown old new known
  pub kept : AreKept (AreFacts old new) latest

-- the symbol is listed, or its setting is the old one
abbrev pub IsNoted : Grammar → Grammar → List (List ℕ) → List ℕ → Type 0
IsNoted old new list symbol = Among symbol list ⊎ IsSameSetting old new symbol

abbrev pub KeepsNoted : Grammar → Grammar → List (List ℕ) → List (List ℕ) → Type 0
KeepsNoted old new before after = (symbol : List ℕ) → IsNoted old new before symbol → IsNoted old new after symbol
