-- The test of settings tells equality.
use Rattle.std.proofs.Common.{◌≡◌, ℕ, List, [], ◌∷◌, ◌++◌, Bool, true, false, ◌&&◌, cond, refl, sym, ◌∙◌, subst, ◌⊎◌, inl, inr, Some, None}
use Rattle.std.specs.Prelude.{Option, find}
use Rattle.std.specs.List.{list_all}
use Rattle.std.specs.Option.{option_map}
use lib.Pointwise.{bytes_decides}
use Rattle.cga_fraction.specs.Rat.{Rat}
use Rattle.cga_rule.specs.declared.grammar.Attribute.{Attribute}
use Rattle.cga_rule.specs.declared.grammar.Grammar.{Grammar}
use Rattle.cga_rule.specs.declared.grammar.Group.{Group}
use Rattle.cga_rule.specs.Equal.{same_group}
use Rattle.cga_rule.proofs.Door.{group_equal}
use Rattle.cga_check.specs.Groups.{group}
use Rattle.cga_check.specs.Uses.{same_name}
use Rattle.cga_expr.specs.Names.{attribute_of}
use Rattle.cga_expand.specs.Settings.{Setting, mentions, setting_of}
use Rattle.cga_touched.specs.Words.{same_option, same_rat}
use Rattle.cga_touched.specs.Settings.{same_value, same_setting}
use Rattle.cga_touched.proofs.Words.{Tells, both, pair, option_tells, rat_tells}

group_tells : (a : Group) → Tells same_group a
group_tells a = ((λ b h. (group_equal a b).0 h), (group_equal a a).1 refl)

number_tells : (a : Option Rat) → Tells (same_option same_rat) a
number_tells = option_tells same_rat rat_tells

all_parts : {A : Type 0} (test : A → Bool) (xs ys : List A) → list_all test (xs ++ ys) ≡ true
    → (list_all test xs ≡ true) × (list_all test ys ≡ true)
all_parts test [] ys h = (refl, h)
all_parts test (x ∷ xs) ys h =
    let w = both (test x) _ h in
    let rest = all_parts test xs ys w.1 in
    (pair (test x) _ w.0 rest.0, rest.1)

-- a test of each attribute's name passes at a name, or no attribute has it
named_or_none : (test : List ℕ → Bool) (attributes : List Attribute) (name : List ℕ)
    → list_all (λ (a : Attribute). test a.name) attributes ≡ true
    → (attribute_of attributes name ≡ None) ⊎ (test name ≡ true)
named_or_none test [] name h = inl refl
named_or_none test (a ∷ rest) name h =
    let w = both (test a.name) _ h in
    step (same_name a.name name) refl w.0 (named_or_none test rest name w.1)
  where
    step : (b : Bool) → same_name a.name name ≡ b → test a.name ≡ true
        → (attribute_of rest name ≡ None) ⊎ (test name ≡ true)
        → (option_map (λ (x : Attribute). x.value)
        (cond b (Some a) (find (λ (x : Attribute). same_name x.name name) rest)) ≡ None) ⊎ (test name ≡ true)
    step true e t more = inr (subst (λ n. test n ≡ true) ((bytes_decides a.name name).0 e) t)
    step false e t more = more

module _ (old new : Grammar) (symbol : List ℕ) where
  value_is : (g : Grammar) (name : List ℕ) → attribute_of g.attributes name ≡ None
      → (setting_of g symbol).values name ≡ None
  unfolding setting_of
  value_is g name e = at (mentions (group g symbol) name)
    where
      at : (b : Bool) → cond b (attribute_of g.attributes name) None ≡ None
      at true = e
      at false = refl

  values_same : list_all (same_value (setting_of old symbol) (setting_of new symbol))
      (old.attributes ++ new.attributes) ≡ true
      → (name : List ℕ) → (setting_of old symbol).values name ≡ (setting_of new symbol).values name
  values_same h name =
      let w = all_parts (same_value (setting_of old symbol) (setting_of new symbol)) old.attributes new.attributes h in
      by (named_or_none told old.attributes name w.0) (named_or_none told new.attributes name w.1)
    where
      told : List ℕ → Bool
      told n = same_option same_rat ((setting_of old symbol).values n) ((setting_of new symbol).values n)

      by : (attribute_of old.attributes name ≡ None) ⊎ (told name ≡ true)
          → (attribute_of new.attributes name ≡ None) ⊎ (told name ≡ true)
          → (setting_of old symbol).values name ≡ (setting_of new symbol).values name
      by (inr t) other = (number_tells ((setting_of old symbol).values name)).0 ((setting_of new symbol).values name) t
      by (inl e) (inr t) = (number_tells ((setting_of old symbol).values name)).0 ((setting_of new symbol).values name) t
      by (inl e) (inl f) = value_is old name e ∙ sym (value_is new name f)

  pub setting_sound : same_setting old new symbol ≡ true → setting_of old symbol ≡ setting_of new symbol
  unfolding same_setting
  setting_sound h =
      let w = both (same_option same_group (setting_of old symbol).group (setting_of new symbol).group) _ h in
      let rules = (option_tells same_group group_tells (setting_of old symbol).group).0 (setting_of new symbol).group w.0 in
      let values = values_same w.1 in
      λ i. record { group = rules i; values = λ name. values name i }

  all_own : (a : Setting) (attributes : List Attribute) → list_all (same_value a a) attributes ≡ true
  all_own a [] = refl
  all_own a (x ∷ xs) = pair (same_value a a x) _ (number_tells (a.values x.name)).1 (all_own a xs)

  pub setting_whole : setting_of old symbol ≡ setting_of new symbol → same_setting old new symbol ≡ true
  unfolding same_setting
  setting_whole e =
      subst (λ s. (same_option same_group (setting_of old symbol).group s.group && list_all (same_value (setting_of old symbol) s) (old.attributes ++ new.attributes)) ≡ true) e
      (pair (same_option same_group (setting_of old symbol).group (setting_of old symbol).group) _
      (option_tells same_group group_tells (setting_of old symbol).group).1 (all_own (setting_of old symbol) (old.attributes ++ new.attributes)))
