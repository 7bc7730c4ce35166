-- That two grammars agree about a symbol is that its settings are equal.
use Rattle.std.proofs.Common.{◌≡◌, ℕ, List, refl, sym, ap, ◌∙◌, Bool, true, false, Some, None, if◌then◌else◌}
use Rattle.std.specs.Prelude.{Option}
use Rattle.cga_fraction.specs.Rat.{Rat}
use Rattle.cga_rule.specs.declared.grammar.Grammar.{Grammar}
use Rattle.cga_rule.specs.declared.grammar.Group.{Group}
use Rattle.cga_check.specs.Groups.{group, mentions_attribute}
use Rattle.cga_expr.specs.Names.{attribute_of}
use Rattle.cga_expand.specs.Settings.{Setting, mentions, setting_of}
use Rattle.cga_depend.specs.Agreement.{IsSameSetting, SameValues}
use Rattle.cga_fraction.proofs.Door.{false-not-true as not_so}

if_same : (b : Bool) (x y : Option Rat) → (b ≡ true → x ≡ y) → (if b then x else None) ≡ (if b then y else None)
if_same true x y h = h refl
if_same false x y h = refl

same_if : (b : Bool) (x y : Option Rat) → (if b then x else None) ≡ (if b then y else None) → b ≡ true → x ≡ y
same_if true x y h is = h
same_if false x y h is = absurd (cc)

abbrev value_at : Grammar → Option Group → List ℕ → Option Rat
value_at grammar g name = if mentions g name then attribute_of grammar.attributes name else None

module _ (old new : Grammar) where
  values_same : (g : Option Group) → SameValues g old new → (name : List ℕ) → value_at old g name ≡ value_at new g name
  values_same None v name = refl
  values_same (Some rules) v name = if_same (mentions_attribute rules name) (attribute_of old.attributes name) (attribute_of new.attributes name) (v name)

  same_values : (g : Option Group) → ((name : List ℕ) → value_at old g name ≡ value_at new g name)
      → SameValues g old new
  same_values None h = λ name is. not_so is
  same_values (Some rules) h = λ name is. same_if (mentions_attribute rules name) (attribute_of old.attributes name) (attribute_of new.attributes name) (h name) is

  pub setting_is_same : (symbol : List ℕ) → IsSameSetting old new symbol → setting_of old symbol ≡ setting_of new symbol
  unfolding setting_of
  setting_is_same symbol s =
      let values : (name : List ℕ) → value_at old (group old symbol) name ≡ value_at new (group new symbol) name =
      λ name. ap (λ g. value_at old g name) s.rules ∙ values_same (group new symbol) s.values name in
      λ i. record { group = s.rules i; values = λ name. values name i }

  pub same_is_setting : (symbol : List ℕ) → setting_of old symbol ≡ setting_of new symbol → IsSameSetting old new symbol
  unfolding setting_of
  same_is_setting symbol e =
      let rules : group old symbol ≡ group new symbol = ap (λ (s : Setting). s.group) e in record {
        rules = rules;
        values = same_values (group new symbol) (λ name. sym (ap (λ g. value_at old g name) rules) ∙ ap (λ (s : Setting). s.values name) e);
      }
