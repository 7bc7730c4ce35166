-- What a group's rules mention, looked for in the grammar's own rules: their order doesn't count.
use Rattle.std.proofs.Common.{◌≡◌, ℕ, List, [], ◌∷◌, map, filter, find, Bool, true, false, ◌&&◌, ◌||◌, cond, refl, sym, ap, ◌∙◌, Some, None}
use Rattle.std.specs.Prelude.{Option, insert}
use Rattle.std.specs.List.{list_any}
use Rattle.std.proofs.lemmas.List.Sorted.{IsPermutation-insert, list_any-IsPermutation}
use Rattle.cga_word.specs.declared.target.Target.{Target}
use Rattle.cga_rule.specs.declared.rule.Rule.{Rule}
use Rattle.cga_rule.specs.declared.grammar.Entry.{Entry}
use Rattle.cga_rule.specs.declared.grammar.Grammar.{Grammar}
use Rattle.cga_check.specs.Groups.{is_of, first_entry, rules_of, rule_index, placed, placed_all, by_id, group_with, group, names, asks, mentions_attribute, mentions_target, group_asks, group_names}
use Rattle.cga_fraction.proofs.Door.{or-false}

or_none : (b c : Bool) → (b || (false || c)) ≡ (b || c)
or_none b c = refl

or_swap : (a b c : Bool) → ((a || b) || c) ≡ (b || (a || c))
or_swap true true c = refl
or_swap true false c = refl
or_swap false true c = refl
or_swap false false c = refl

module _ (p : Rule → Bool) where
  any_placed : (r : Rule) (rs : List Rule) → list_any p (placed r rs) ≡ (p r || list_any p rs)
  unfolding placed
  any_placed r rs = sym (list_any-IsPermutation p (r ∷ rs) (insert rs (rule_index r.id rs) r) (IsPermutation-insert rs (rule_index r.id rs) r))

  any_all : (rs more : List Rule) → list_any p (placed_all rs more) ≡ (list_any p rs || list_any p more)
  any_all rs [] = sym (or-false (list_any p rs))
  any_all rs (r ∷ more) = any_all (placed r rs) more ∙ (ap (λ b. b || list_any p more) (any_placed r rs) ∙ or_swap (p r) (list_any p rs) (list_any p more))

  any_of : (symbol : List ℕ) (es : List Entry)
      → list_any p (rules_of es symbol) ≡ list_any (λ (e : Entry). is_of symbol e && p e.rule) es
  unfolding rules_of
  any_of symbol [] = refl
  any_of symbol (e ∷ es) = by (is_of symbol e) (any_of symbol es)
    where
      by : (b : Bool)
          → list_any p (map (λ (x : Entry). x.rule) (filter (is_of symbol) es)) ≡ list_any
          (λ (x : Entry). is_of symbol x && p x.rule) es
          → list_any p (map (λ (x : Entry). x.rule) (cond b (e ∷ filter (is_of symbol) es) (filter (is_of symbol) es)))
          ≡ ((b && p e.rule) || list_any (λ (x : Entry). is_of symbol x && p x.rule) es)
      by true h = ap (λ c. p e.rule || c) h
      by false h = h

  any_by_id : (symbol : List ℕ) (es : List Entry)
      → list_any p (by_id (rules_of es symbol)) ≡ list_any (λ (e : Entry). is_of symbol e && p e.rule) es
  unfolding by_id
  any_by_id symbol es = any_all [] (rules_of es symbol) ∙ any_of symbol es

  -- a symbol without a first rule has none
  pub none_passes : (symbol : List ℕ) (es : List Entry) → first_entry es symbol ≡ None
      → list_any (λ (e : Entry). is_of symbol e && p e.rule) es ≡ false
  unfolding first_entry
  none_passes symbol [] h = refl
  none_passes symbol (e ∷ es) h = by (is_of symbol e) (none_passes symbol es) h
    where
      by : (b : Bool)
          → (find (is_of symbol) es ≡ None → list_any (λ (x : Entry). is_of symbol x && p x.rule) es ≡ false)
          → cond b (Some e) (find (is_of symbol) es) ≡ None
          → ((b && p e.rule) || list_any (λ (x : Entry). is_of symbol x && p x.rule) es) ≡ false
      by true more k = absurd (cc)
      by false more k = more k

-- by the first rule of the symbol
asked_by : (target : Target) (symbol : List ℕ) (es : List Entry) (first : Option Entry) → first_entry es symbol ≡ first
    → list_any (λ (e : Entry). is_of symbol e && asks target e.rule) es ≡ group_asks (group_with es symbol first) target
unfolding mentions_target
asked_by target symbol es None h = none_passes (asks target) symbol es h
asked_by target symbol es (Some e) h = sym (any_by_id (asks target) symbol es)

pub asked_is : (target : Target) (symbol : List ℕ) (g : Grammar)
    → list_any (λ (e : Entry). is_of symbol e && asks target e.rule) g.rules ≡ group_asks (group g symbol) target
unfolding group
asked_is target symbol g = asked_by target symbol g.rules (first_entry g.rules symbol) refl

named_by : (name symbol : List ℕ) (es : List Entry) (first : Option Entry) → first_entry es symbol ≡ first
    → list_any (λ (e : Entry). is_of symbol e && names name e.rule) es ≡ group_names (group_with es symbol first) name
unfolding mentions_attribute
named_by name symbol es None h = none_passes (names name) symbol es h
named_by name symbol es (Some e) h = sym (any_by_id (names name) symbol es)

pub named_is : (name symbol : List ℕ) (g : Grammar)
    → list_any (λ (e : Entry). is_of symbol e && names name e.rule) g.rules ≡ group_names (group g symbol) name
unfolding group
named_is name symbol g = named_by name symbol g.rules (first_entry g.rules symbol) refl
