-- Rules with another priority, and attributes with another value, have no new fault.
use Rattle.std.proofs.Common.{◌≡◌, ℕ, List, [], ◌∷◌, ◌++◌, length, map, get_or, Bool, true, false, ◌||◌, refl, sym, ap, ap₂, ◌∙◌, Option, Some, inl, inr, length-set, if◌then◌else◌}
use Rattle.std.specs.Prelude.{flat_map, find, slice_set}
use Rattle.std.specs.List.{AllByRecursion, list_any}
use Rattle.std.proofs.lemmas.List.Quantifiers.{position-Some}
use Rattle.std.proofs.lemmas.Slice.Eq.{bytes_eq-Decides}
use Rattle.std.proofs.Math.Seq.{map-set_same}
use Rattle.std.proofs.lemmas.List.{length-map, map-append}
use Rattle.cga_fraction.specs.Rat.{Rat}
use Rattle.cga_rule.specs.declared.grammar.Attribute.{Attribute}
use Rattle.cga_rule.specs.declared.grammar.Entry.{Entry}
use Rattle.cga_rule.specs.declared.grammar.Grammar.{Grammar}
use Rattle.cga_rule.specs.declared.rule.Rule.{Rule}
use Rattle.cga_check.specs.declared.usage.Use.{Use}
use Rattle.cga_check.specs.declared.usage.Use.TheVariants.{Answer, Child, Parts, Named}
use Rattle.cga_check.specs.Uses.{rule_uses, Uses, same_name}
use Rattle.cga_check.specs.Groups.{is_of, first_entry}
use Rattle.cga_check.specs.Faults.{each_after, is_attribute, attribute_faults, param_faults, use_faults, IsValid}
use Rattle.cga_check.proofs.Door.{none_left, none_right}
use Rattle.cga_city.specs.Grammars.{attribute_place, with_priority, prioritized}
use Rattle.cga_city.proofs.Sorting.{decide}
use Rattle.cga_city.proofs.Faultless.{weaker, nils, Apart, IsFine, Differ, faultless, valid_if}
use Rattle.cga_city.proofs.Ranked.{of, KeepsFirst, fine_kept}

-- ---- priorities

module _ (symbol : List ℕ) (priority : ℕ) where
  pub same_rule : (e : Entry) → (with_priority symbol priority e).rule ≡ e.rule
  same_rule e = elim (decide (is_of symbol e)) [ inl t ↦ rw t refl | inr f ↦ rw f refl ]

  step : (s : List ℕ) (x : Entry) (rest more : Option Entry) (b : Bool)
      → ((f : Entry) → rest ≡ Some f → (k : Entry) × (more ≡ Some k) × (length k.rule.params ≡ length f.rule.params))
      → (f : Entry) → (if b then Some x else rest) ≡ Some f
      → (k : Entry) × ((if b then Some (with_priority symbol priority x) else more) ≡ Some k)
      × (length k.rule.params ≡ length f.rule.params)
  step s x rest more true ih f h = let same : x ≡ f = cc in (with_priority symbol priority x, refl, rw (same_rule x, same) refl)
  step s x rest more false ih f h = ih f h

  finds : (s : List ℕ) (xs : List Entry) (f : Entry) → find (is_of s) xs ≡ Some f
      → (k : Entry) × (find (is_of s) (prioritized symbol priority xs) ≡ Some k)
      × (length k.rule.params ≡ length f.rule.params)
  finds s [] f h = cc
  finds s (x ∷ xs) f h = rw (same_rule x) (step s x (find (is_of s) xs) (find (is_of s) (prioritized symbol priority xs)) (is_of s x) (finds s xs) f h)

  keeps : (rules : List Entry) → KeepsFirst rules (prioritized symbol priority rules)
  unfolding first_entry
  keeps rules s f h = finds s rules f h

  same_priority : (e x : Entry) → x.rule.symbol ≡ e.rule.symbol → x.priority ≡ e.priority
      → (with_priority symbol priority x).priority ≡ (with_priority symbol priority e).priority
  same_priority e x named same = elim (decide (is_of symbol e)) [
    | inl t ↦ (let u : is_of symbol x ≡ true = rw named t in rw (t, u) refl)
    | inr f ↦ (let u : is_of symbol x ≡ false = rw named f in rw (f, u) same)
  ]

  still_apart : (e x : Entry) → Apart e x → Apart (with_priority symbol priority e) (with_priority symbol priority x)
  still_apart e x h = rw (same_rule e, same_rule x) (h.0, λ s. (same_priority e x s (h.1 s).0, (h.1 s).1))

  all_apart : (e : Entry) (xs : List Entry) → AllByRecursion (Apart e) xs
      → AllByRecursion (Apart (with_priority symbol priority e)) (prioritized symbol priority xs)
  all_apart e [] h = tt
  all_apart e (x ∷ xs) h = (still_apart e x h.0, all_apart e xs h.1)

  still_differ : (xs : List Entry) → Differ xs → Differ (prioritized symbol priority xs)
  still_differ [] h = tt
  still_differ (x ∷ xs) h = (all_apart x xs h.0, still_differ xs h.1)

  still_fine : (attributes : List Attribute) (rules xs : List Entry) → AllByRecursion (IsFine (of attributes rules)) xs
      → AllByRecursion (IsFine (of attributes (prioritized symbol priority rules))) (prioritized symbol priority xs)
  still_fine attributes rules [] h = tt
  still_fine attributes rules (x ∷ xs) h =
      (fine_kept attributes rules (prioritized symbol priority rules) (keeps rules) x (with_priority symbol priority x) (same_rule x) h.0, still_fine attributes rules xs h.1)

  pub prioritized_valid : (g : Grammar) → IsValid g → IsValid (of g.attributes (prioritized symbol priority g.rules))
  prioritized_valid g valid =
      let f = faultless g valid in
      valid_if (of g.attributes (prioritized symbol priority g.rules)) (record {
        few_rules = rw (length-map g.rules (with_priority symbol priority)) f.few_rules;
        few_attributes = f.few_attributes;
        attributes = f.attributes;
        rules = (still_differ g.rules f.rules.0, still_fine g.attributes g.rules g.rules f.rules.1);
      })

-- ---- values

abbrev names : List Attribute → List (List ℕ)
names attributes = map (λ (a : Attribute). a.name) attributes

is_named : (name : List ℕ) (attributes : List Attribute)
    → is_attribute attributes name ≡ list_any (λ n. same_name n name) (names attributes)
is_named name [] = refl
is_named name (a ∷ attributes) = ap (λ t. same_name a.name name || t) (is_named name attributes)

module _ (old new : List Attribute) (same : names old ≡ names new) where
  same_attribute : (name : List ℕ) → is_attribute new name ≡ is_attribute old name
  same_attribute name = is_named name new ∙ ap (λ ns. list_any (λ n. same_name n name) ns) (sym same) ∙ sym (is_named name old)

  module _ (rules : List Entry) where
    params_kept : (id : ℕ) (before ps : List (List ℕ)) → each_after (param_faults (of old rules) id) before ps ≡ []
        → each_after (param_faults (of new rules) id) before ps ≡ []
    unfolding each_after
    params_kept id before [] h = refl
    params_kept id before (p ∷ ps) h =
        nils _ _ (rw (same_attribute p) (none_left (param_faults (of old rules) id before p) _ h)) (params_kept id (before ++ p ∷ []) ps (none_right (param_faults (of old rules) id before p) _ h))

    use_valued : (r : Rule) (u : Use) → use_faults (of old rules) r u ≡ [] → use_faults (of new rules) r u ≡ []
    use_valued r (Answer target) h = h
    use_valued r (Child symbol args) h = h
    use_valued r (Parts sizes bodies) h = h
    use_valued r (Named name) h = rw (same_attribute name) h

    uses_valued : (r : Rule) (us : Uses) → flat_map (use_faults (of old rules) r) us ≡ []
        → flat_map (use_faults (of new rules) r) us ≡ []
    uses_valued r [] h = refl
    uses_valued r (u ∷ us) h = nils _ _ (use_valued r u (none_left (use_faults (of old rules) r u) _ h)) (uses_valued r us (none_right (use_faults (of old rules) r u) _ h))

    fine_valued : (e : Entry) → IsFine (of old rules) e → IsFine (of new rules) e
    fine_valued e fine = record {
      own = nils _ _ (params_kept e.rule.id [] e.rule.params
          (none_left (each_after (param_faults (of old rules) e.rule.id) [] e.rule.params) _ fine.own))
          (none_right (each_after (param_faults (of old rules) e.rule.id) [] e.rule.params) _ fine.own);
      used = uses_valued e.rule (rule_uses e.rule) fine.used;
    }

names_more : (xs ys : List Attribute) (o n : Attribute) → names xs ≡ names ys → o.name ≡ n.name
    → names (xs ++ o ∷ []) ≡ names (ys ++ n ∷ [])
names_more xs ys o n e one = map-append (λ (a : Attribute). a.name) xs (o ∷ []) ∙ ap₂ ◌++◌ e (ap (λ m. m ∷ []) one) ∙ sym (map-append (λ (a : Attribute). a.name) ys (n ∷ []))

-- attributes are looked at by their names alone
named_alike : (before later olds news : List Attribute) → names before ≡ names later → names olds ≡ names news
    → each_after attribute_faults before olds ≡ [] → each_after attribute_faults later news ≡ []
unfolding each_after
named_alike before later [] [] b s h = refl
named_alike before later [] (n ∷ news) b s h = cc
named_alike before later (o ∷ olds) [] b s h = cc
named_alike before later (o ∷ olds) (n ∷ news) b s h =
    let one : o.name ≡ n.name = cc in
    let rest : names olds ≡ names news = cc in
    nils _ _ (rw (← one) (rw (same_attribute before later b o.name) (none_left (attribute_faults before o) _ h)))
    (named_alike (before ++ o ∷ []) (later ++ n ∷ []) olds news (names_more before later o n b one) rest (none_right (attribute_faults before o) _ h))

pub valued_valid : (g : Grammar) (name : List ℕ) (value : Rat) (i : ℕ) → attribute_place name g.attributes ≡ Some i
    → IsValid g
    → IsValid (of (slice_set g.attributes i (record { name = name; value = value })) g.rules)
valued_valid g name value i at valid =
    let f = faultless g valid in
    let a : Attribute = record { name = name; value = value } in
    let there = position-Some (λ (a : Attribute). same_name a.name name) g.attributes i a at in
    let named : (get_or g.attributes i a).name ≡ name = (bytes_eq-Decides (get_or g.attributes i a).name name).0 there.1 in
    let same : names g.attributes ≡ names (slice_set g.attributes i a) = sym (map-set_same (λ (x : Attribute). x.name) g.attributes i a a (sym named)) in
    valid_if (of (slice_set g.attributes i a) g.rules) (record {
      few_rules = f.few_rules;
      few_attributes = rw (length-set g.attributes i a) f.few_attributes;
      attributes = named_alike [] [] g.attributes (slice_set g.attributes i a) refl same f.attributes;
      rules = (f.rules.0, weaker (IsFine g) (IsFine (of (slice_set g.attributes i a) g.rules)) (fine_valued g.attributes (slice_set g.attributes i a) same g.rules) g.rules f.rules.1);
    })
