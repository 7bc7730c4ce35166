-- Values of attributes: what holds of the names of both lists holds of every name.
use Rattle.std.proofs.Common.{◌≡◌, ◌↔◌, IsTrue, ℕ, ◌⊎◌, inl, inr, List, [], ◌∷◌, All, refl, sym, ◌∙◌, subst, cond, Bool, true, false, Some, None}
use lib.Pointwise.{bytes_decides}
use Rattle.std.specs.Prelude.{Option, find}
use Rattle.std.specs.Option.{option_map}
use Rattle.std.proofs.lemmas.List.Elements.{All-nil, All-cons, All-head, All-tail}
use Rattle.cga_fraction.specs.Rat.{Rat}
use Rattle.cga_rule.specs.declared.grammar.Attribute.{Attribute}
use Rattle.cga_rule.specs.declared.grammar.Grammar.{Grammar}
use Rattle.cga_rule.specs.declared.grammar.Group.{Group}
use Rattle.cga_expr.specs.Names.{attribute_of, same_name}
use Rattle.cga_depend.specs.Agreement.{SameValue, SameValues}

value_step : (P : List ℕ → Type 0) (a : Attribute) (name : List ℕ) (rest : Option Attribute) (b : Bool)
    → (b ≡ true → P name)
    → (option_map (λ (x : Attribute). x.value) rest ≡ None) ⊎ P name
    → (option_map (λ (x : Attribute). x.value) (cond b (Some a) rest) ≡ None) ⊎ P name
value_step P a name rest true p h = inr (p refl)
value_step P a name rest false p h = h

-- what holds of the names of attributes holds of a name, or it has no value
with_value : (P : List ℕ → Type 0) (name : List ℕ) (more : List Attribute) → All (λ (a : Attribute). P a.name) more
    → (attribute_of more name ≡ None) ⊎ P name
with_value P name [] h = inl refl
with_value P name (a ∷ more) h =
    value_step P a name (find (λ (x : Attribute). same_name x.name name) more) (same_name a.name name)
    (λ yes. subst P ((bytes_decides a.name name).0 yes) (All-head (λ (x : Attribute). P x.name) a more h))
    (with_value P name more (All-tail (λ (x : Attribute). P x.name) a more h))

both : (P : Type 0) (a b : Option Rat) → (a ≡ None) ⊎ P → (b ≡ None) ⊎ P → (a ≡ b → P) → P
both P a b (inl e) (inl d) h = h (e ∙ sym d)
both P a b (inl e) (inr p) h = p
both P a b (inr p) d h = p

module _ (rules : Option Group) (old new : Grammar) where
  abbrev Same : Attribute → Type 0
  Same a = SameValue rules old new a.name

  all_values : All Same old.attributes → All Same new.attributes → SameValues rules old new
  all_values h k name =
      both (SameValue rules old new name) (attribute_of old.attributes name) (attribute_of new.attributes name)
      (with_value (SameValue rules old new) name old.attributes h) (with_value (SameValue rules old new) name new.attributes k) (λ e yes. e)

  pub values_of : SameValues rules old new → (more : List Attribute) → All Same more
  values_of h [] = All-nil Same
  values_of h (a ∷ more) = All-cons Same a more (h a.name) (values_of h more)

  -- lists that are lent as slices
  pub values_decided : (s t : List Attribute) (r : Bool) → s ≡ old.attributes → t ≡ new.attributes → All Same s
      → (IsTrue r ↔ All Same t) → IsTrue r ↔ SameValues rules old new
  values_decided s t r is was first second =
      (λ p. all_values (subst (All Same) is first) (subst (All Same) was (second.0 p)), λ v. second.1 (values_of v t))
