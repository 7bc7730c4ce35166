-- The facts of symbols, once they are known, and which symbols changed.
use Rattle.std.proofs.Common.{◌≡◌, inl, inr, ℕ, nat_eq, suc, List, [], ◌∷◌, ◌++◌, Bool, true, false, ◌||◌, refl, sym, ap, ◌∙◌, subst, Option, Some, None, slice_get, ◌+◌, ◌<◌, ◌≤◌, length, arith}
use Rattle.std.proofs.lemmas.Option.{slice_get_within}
use Rattle.std.specs.Prelude.{find, if◌then◌else◌}
use Rattle.std.specs.List.{list_any}
use lib.Pointwise.{pointwise, bytes_decides}
use Rattle.indexmap.specs.IndexMap.{IndexMap, Updates}
use Rattle.cga_fraction.proofs.Door.{None-not-Some as none_some, lt_or_eq_from_lt_suc as at_or_below, same_Some as some_same}
use Rattle.cga_order.specs.World.{Among}
use Rattle.cga_order.proofs.Door.{Among-left as among_left, Among-right as among_right}
use Rattle.cga_rule.specs.declared.grammar.Entry.{Entry}
use Rattle.cga_rule.specs.declared.grammar.Grammar.{Grammar}
use Rattle.cga_check.specs.Uses.{same_name}
use Rattle.cga_check.specs.Groups.{first_entry, group, group_names, group_with, is_of}
use Rattle.cga_check.proofs.Door.{still_right}
use Rattle.cga_expr.specs.Names.{attribute_of}
use Rattle.cga_depend.specs.Agreement.{IsSameSetting}
use Rattle.cga_depend.specs.Changed.{AreFacts, AreKnown, IsNoted, KeepsNoted}
use Rattle.cga_depend.specs.declared.changed.Facts.{Facts}

-- what was known is right, and so is the rest
pub still_known : {S : Type 0} (old new : Grammar) (before after : IndexMap (List ℕ) Facts S) (symbol : List ℕ)
    (facts : Facts) → AreFacts old new symbol facts → AreKnown old new before
    → Updates (pointwise nat_eq) before after symbol (Some facts) → AreKnown old new after
still_known old new before after symbol facts are known updates = still_right (AreFacts old new) before after symbol facts are known updates

-- ---- which symbols changed

found_first : {X : Type 0} (p : X → Bool) (y : X) (xs : List X) (x : X)
    → (find p xs ≡ Some x → (i : ℕ) × (slice_get xs i ≡ Some x) × (p x ≡ true))
    → (b : Bool) → p y ≡ b → find p (y ∷ xs) ≡ Some x → (i : ℕ) × (slice_get (y ∷ xs) i ≡ Some x) × (p x ≡ true)
found_first p y xs x more true is h =
    let same : y ≡ x = some_same y x (ap (λ b. if b then Some y else find p xs) (sym is) ∙ h) in (0, ap Some same, ap p (sym same) ∙ is)
found_first p y xs x more false is h =
    let w = more (ap (λ b. if b then Some y else find p xs) (sym is) ∙ h) in (suc w.0, w.1, w.2)

some_found : {X : Type 0} (p : X → Bool) (xs : List X) (x : X) → find p xs ≡ Some x
    → (i : ℕ) × (slice_get xs i ≡ Some x) × (p x ≡ true)
some_found p [] x h = none_some x h
some_found p (y ∷ xs) x h = found_first p y xs x (some_found p xs x) (p y) refl h

-- a symbol without rules in both
same_none : (old new : Grammar) (symbol : List ℕ) → first_entry old.rules symbol ≡ None
    → first_entry new.rules symbol ≡ None → IsSameSetting old new symbol
unfolding group
same_none old new symbol before after =
    let none : group new symbol ≡ None = ap (group_with new.rules symbol) after in record {
      rules = ap (group_with old.rules symbol) before ∙ sym none;
      values = λ name is. absurd (let z : false ≡ true = sym (ap (λ o. group_names o name) none) ∙ is in cc);
    }

-- equal grammars
pub same_itself : (old new : Grammar) → old ≡ new → (symbol : List ℕ) → IsSameSetting old new symbol
same_itself old new e symbol = record {
  rules = ap (λ (g : Grammar). group g symbol) e;
  values = λ name is. ap (λ (g : Grammar). attribute_of g.attributes name) e;
}

listed_at : (old new g : Grammar) (list : List (List ℕ)) (symbol : List ℕ)
    → ((i : ℕ) (e : Entry) → slice_get g.rules i ≡ Some e → IsNoted old new list e.rule.symbol)
    → (e : Entry) → first_entry g.rules symbol ≡ Some e → IsNoted old new list symbol
unfolding first_entry
listed_at old new g list symbol each e is =
    let w = some_found (is_of symbol) g.rules e is in
    subst (λ s. IsNoted old new list s) ((bytes_decides e.rule.symbol symbol).0 w.2) (each w.0 e w.1)

-- where the symbols of all rules are noted, each symbol is
pub all_noted : (old new : Grammar) (list : List (List ℕ))
    → ((i : ℕ) (e : Entry) → slice_get old.rules i ≡ Some e → IsNoted old new list e.rule.symbol)
    → ((i : ℕ) (e : Entry) → slice_get new.rules i ≡ Some e → IsNoted old new list e.rule.symbol) → (symbol : List ℕ)
    → IsNoted old new list symbol
all_noted old new list first second symbol = by_entries (first_entry old.rules symbol) (first_entry new.rules symbol) refl refl
  where
    by_entries : (a b : Option Entry) → first_entry old.rules symbol ≡ a → first_entry new.rules symbol ≡ b
        → IsNoted old new list symbol
    by_entries (Some e) b is is' = listed_at old new old list symbol first e is
    by_entries None (Some e) is is' = listed_at old new new list symbol second e is'
    by_entries None None is is' = inr (same_none old new symbol is is')

pub noted_push : (old new : Grammar) (list : List (List ℕ)) (x : List ℕ) → KeepsNoted old new list (list ++ x ∷ [])
noted_push old new list x symbol h = elim h [ inl a ↦ inl (among_left list (x ∷ []) symbol a) | inr e ↦ inr e ]

pub noted_here : (old new : Grammar) (list : List (List ℕ)) (x : List ℕ) → IsNoted old new (list ++ x ∷ []) x
noted_here old new list x = inl (among_right list (x ∷ []) x (inl refl))

named_first : (name x : List ℕ) (names : List (List ℕ)) → (list_any (same_name name) names ≡ true → Among name names)
    → (b : Bool) → same_name name x ≡ b
    → list_any (same_name name) (x ∷ names) ≡ true → Among name (x ∷ names)
named_first name x names more true is h = inl (sym ((bytes_decides name x).0 is))
named_first name x names more false is h = inr (more (ap (λ b. b || list_any (same_name name) names) (sym is) ∙ h))

pub named_among : (name : List ℕ) (names : List (List ℕ)) → list_any (same_name name) names ≡ true → Among name names
named_among name [] h = let z : false ≡ true = h in absurd (cc)
named_among name (x ∷ names) h = named_first name x names (named_among name names) (same_name name x) refl h

-- the symbols of the first n rules are noted
abbrev pub FirstNoted : Grammar → Grammar → List Entry → ℕ → List (List ℕ) → Type 0
FirstNoted old new entries n list = (i : ℕ) (e : Entry) → i < n → slice_get entries i ≡ Some e → IsNoted old new list e.rule.symbol

pub noted_next : (old new : Grammar) (entries : List Entry) (before after : List (List ℕ)) (n : ℕ) (x : Entry)
    → slice_get entries n ≡ Some x
    → KeepsNoted old new before after → IsNoted old new after x.rule.symbol → FirstNoted old new entries n before
    → FirstNoted old new entries (n + 1) after
noted_next old new entries before after n x at kept here first i e le is = elim (at_or_below i n le) [
  | inl lower ↦ kept e.rule.symbol (first i e lower is)
  | inr same ↦ (
      let z : x ≡ e = some_same x e (sym at ∙ (ap (slice_get entries) (sym same) ∙ is)) in
      subst (λ (y : Entry). IsNoted old new after y.rule.symbol) z here)
]

pub noted_end : (old new : Grammar) (entries : List Entry) (n : ℕ) (list : List (List ℕ)) → length entries ≤ n
    → FirstNoted old new entries n list
    → (i : ℕ) (e : Entry) → slice_get entries i ≡ Some e → IsNoted old new list e.rule.symbol
noted_end old new entries n list le first i e is = let z = slice_get_within entries i e is in first i e (omega (arith, z, le)) is

-- the rules are those that were lent
pub noted_in : (old new : Grammar) (entries lent : List Entry) (list : List (List ℕ)) → lent ≡ entries
    → ((i : ℕ) (e : Entry) → slice_get lent i ≡ Some e → IsNoted old new list e.rule.symbol)
    → (i : ℕ) (e : Entry) → slice_get entries i ≡ Some e → IsNoted old new list e.rule.symbol
noted_in old new entries lent list same each = subst (λ es. (i : ℕ) (e : Entry) → slice_get es i ≡ Some e → IsNoted old new list e.rule.symbol) same each
