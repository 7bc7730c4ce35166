-- Sources that a city may have go through whole, whatever the order of their rules, and are then what they were.
use Rattle.std.proofs.Common.{◌≡◌, ◌≢◌, ℕ, ◌+◌, ◌<◌, ◌≤◌, List, [], ◌∷◌, length, Bool, true, false, ◌||◌, nat_eq, nat_lt, refl, sym, ap, subst, ◌∙◌, arith, Ok, inl, inr}
use Rattle.std.specs.Prelude.{sum_by, IsPermutation, if◌then◌else◌}
use Rattle.std.specs.List.{AllByRecursion, list_any}
use Rattle.std.proofs.lemmas.Bool.Decides.{nat_tests}
use Rattle.std.proofs.lemmas.List.Elements.{All-from_recursion, recursion_from_All}
use Rattle.std.proofs.lemmas.List.Sorted.{All-permutation, IsPermutation-sym, length_permutation, sum_by-IsPermutation}
use Rattle.std.proofs.lemmas.List.Sums.{sum_by-cons}
use Rattle.cga_order.specs.World.{Among}
use Rattle.cga_check.specs.Faults.{IsValid}
use Rattle.cga_rule.specs.declared.grammar.Attribute.{Attribute}
use Rattle.cga_rule.specs.declared.grammar.Entry.{Entry}
use Rattle.cga_rule.specs.declared.grammar.Grammar.{Grammar}
use Rattle.cga_shape.specs.declared.edit.Edit.TheVariants as edit
use Rattle.cga_shape.specs.declared.sources.Sources.{Sources}
use Rattle.cga_city.specs.Apply.{apply, changed, within}
use Rattle.cga_city.specs.Grammars.{with_rules, ranked, IsRising}
use Rattle.cga_city.specs.Inside.{AreSound}
use Rattle.cga_city.specs.Laws.{with_entries, WholeSetsThem}
use Rattle.cga_city.proofs.Sorting.{decide, all_at, all_from, IsStrict, Rises, one_rising}
use Rattle.cga_city.proofs.Faultless.{Apart, apart_back, Differ, IsFine, faultless, valid_if, weaker}
use Rattle.cga_city.proofs.Ranked.{of, IsNew, KeepsFirst, all_none, among, fine_all, first_kept}
use Rattle.cga_city.proofs.Rising.{ranked_rises}
use Rattle.cga_city.proofs.Plain.{good_accepted}
use Rattle.cga_city.proofs.Again.{fits}
use Rattle.std.proofs.lemmas.Bool.{or_right}
use Rattle.cga_fraction.proofs.Door.{eq_from_nat_eq as is_id, nat_eq-same as own_id, nat_eq_from_ne as no_id, nat_lt_from_lt as lt_is}

-- ---- how often an id stands in a list

abbrev has_id : ℕ → Entry → ℕ
has_id id e = if nat_eq e.rule.id id then 1 else 0

count_none : (id : ℕ) (xs : List Entry) → IsNew id xs → sum_by (has_id id) xs ≡ 0
count_none id [] h = refl
count_none id (x ∷ xs) h =
    let here : has_id id x ≡ 0 = rw (no_id x.rule.id id h.0) refl in
    let rest = count_none id xs h.1 in
    omega (arith, sum_by-cons (has_id id) x xs, here, rest)

count_few : (id : ℕ) (xs : List Entry) → Differ xs → sum_by (has_id id) xs ≤ 1
count_few id [] d = omega arith
count_few id (x ∷ xs) d = elim (decide (nat_eq x.rule.id id)) [
  | inl t ↦
      let here : has_id id x ≡ 1 = rw t refl in
      let rest = count_none id xs (weaker (Apart x) (λ (y : Entry). y.rule.id ≢ id) (λ y k. subst (λ (n : ℕ). y.rule.id ≢ n) (is_id x.rule.id id t) k.0) xs d.0) in
      omega (arith, sum_by-cons (has_id id) x xs, here, rest)
  | inr f ↦
      let here : has_id id x ≡ 0 = rw f refl in
      let rest = count_few id xs d.1 in
      omega (arith, sum_by-cons (has_id id) x xs, here, rest)
]

count_one : (y : Entry) (xs : List Entry) → Among y xs → 1 ≤ sum_by (has_id y.rule.id) xs
count_one y [] i = absurd i
count_one y (x ∷ xs) i = elim i [
  | inl e ↦
      let here : has_id y.rule.id x ≡ 1 = ap (has_id y.rule.id) e ∙ rw (own_id y.rule.id) refl in
      omega (arith, sum_by-cons (has_id y.rule.id) x xs, here)
  | inr r ↦
      let rest = count_one y xs r in
      omega (arith, sum_by-cons (has_id y.rule.id) x xs, rest)
]

-- ---- two rules of a list

abbrev Agree : Entry → Entry → Type 0
Agree e x = x.rule.symbol ≡ e.rule.symbol → (x.priority ≡ e.priority) × (length x.rule.params ≡ length e.rule.params)

agree_all : (xs : List Entry) → Differ xs → (x y : Entry) → Among x xs → Among y xs → Agree x y
agree_all [] d x y i j = absurd i
agree_all (z ∷ zs) d x y i j = elim i [
  | inl e ↦ elim j [
    | inl f ↦ λ s. let same : y ≡ x = sym f ∙ e in (ap (λ (w : Entry). w.priority) same, ap (λ (w : Entry). length w.rule.params) same)
    | inr r ↦ subst (λ (w : Entry). Agree w y) e (all_at (Apart z) zs y d.0 r).1
  ]
  | inr r ↦ elim j [
    | inl f ↦ subst (λ (w : Entry). Agree x w) f (apart_back z x (all_at (Apart z) zs x d.0 r)).1
    | inr s ↦ agree_all zs d.1 x y r s
  ]
]

-- one rule has an id
one_of : (xs : List Entry) → Differ xs → (x y : Entry) → Among x xs → Among y xs → x.rule.id ≡ y.rule.id → x ≡ y
one_of [] d x y i j e = absurd i
one_of (z ∷ zs) d x y i j e = elim i [
  | inl f ↦ elim j [
    | inl g ↦ sym f ∙ g
    | inr s ↦ absurd ((all_at (Apart z) zs y d.0 s).0 (sym e ∙ sym (ap (λ (w : Entry). w.rule.id) f)))
  ]
  | inr r ↦ elim j [
    | inl g ↦ absurd ((all_at (Apart z) zs x d.0 r).0 (e ∙ sym (ap (λ (w : Entry). w.rule.id) g)))
    | inr s ↦ one_of zs d.1 x y r s e
  ]
]

differ_if : (xs : List Entry) → ((x y : Entry) → Among x xs → Among y xs → Agree x y)
    → ((id : ℕ) → sum_by (has_id id) xs ≤ 1) → Differ xs
differ_if [] agree few = tt
differ_if (x ∷ xs) agree few = (
  all_from (Apart x) xs (λ y i. (other y i, agree x y (inl refl) (inr i))),
  differ_if xs (λ a b i j. agree a b (inr i) (inr j)) (λ id. let all = few id in omega (arith, sum_by-cons (has_id id) x xs, all)),
)
  where
    other : (y : Entry) → Among y xs → y.rule.id ≢ x.rule.id
    other y i e =
        let here : has_id y.rule.id x ≡ 1 = ap (λ (n : ℕ). if nat_eq n y.rule.id then 1 else 0) (sym e) ∙ rw (own_id y.rule.id) refl in
        let rest = count_one y xs i in
        let all = few y.rule.id in
        let bad : 2 ≤ 1 = omega (arith, sum_by-cons (has_id y.rule.id) x xs, here, rest, all) in omega arith

-- ---- tests of a list

any_at : (p : Entry → Bool) (xs : List Entry) → list_any p xs ≡ true → (x : Entry) × Among x xs × (p x ≡ true)
any_at p [] h = cc
any_at p (x ∷ xs) h = elim (decide (p x)) [
  | inl t ↦ (x, inl refl, t)
  | inr f ↦ let k = any_at p xs (rw f at h) in (k.0, inr k.1, k.2)
]

any_of : (p : Entry → Bool) (xs : List Entry) (x : Entry) → Among x xs → p x ≡ true → list_any p xs ≡ true
any_of p [] x i h = absurd i
any_of p (y ∷ ys) x i h = elim i [
  | inl e ↦ let here : p y ≡ true = ap p e ∙ h in rw here refl
  | inr r ↦ or_right (p y) (list_any p ys) (any_of p ys x r h)
]

-- ---- the same rules in another order

module _ (rules new : List Entry) (perm : IsPermutation rules new) where
  each : (P : Entry → Type 0) → AllByRecursion P rules → AllByRecursion P new
  each P h = recursion_from_All P new (All-permutation P rules new perm (All-from_recursion P rules h))

  each_back : (P : Entry → Type 0) → AllByRecursion P new → AllByRecursion P rules
  each_back P h = recursion_from_All P rules (All-permutation P new rules (IsPermutation-sym rules new perm) (All-from_recursion P new h))

  to : (x : Entry) → Among x rules → Among x new
  to x i = all_at (λ (z : Entry). Among z new) rules x (each_back (λ (z : Entry). Among z new) (all_from (λ (z : Entry). Among z new) new (λ z k. k))) i

  from : (x : Entry) → Among x new → Among x rules
  from x i = all_at (λ (z : Entry). Among z rules) new x (each (λ (z : Entry). Among z rules) (all_from (λ (z : Entry). Among z rules) rules (λ z k. k))) i

  any : (p : Entry → Bool) → list_any p rules ≡ true → list_any p new ≡ true
  any p h = let k = any_at p rules h in any_of p new k.0 (to k.0 k.1) k.2

  differ : Differ rules → Differ new
  differ d =
      differ_if new (λ x y i j. agree_all rules d x y (from x i) (from y j))
      (λ id. let few = count_few id rules d in omega (arith, sum_by-IsPermutation (has_id id) rules new perm, few))

reordered_valid : (g : Grammar) (new : List Entry) → IsPermutation g.rules new → IsValid g
    → IsValid (of g.attributes new)
reordered_valid g new perm valid =
    let f = faultless g valid in
    let keeps : KeepsFirst g.rules new = first_kept g new valid (λ P h. each g.rules new perm P h) (any g.rules new perm) in
    valid_if (of g.attributes new) (record {
      few_rules = rw (length_permutation g.rules new perm) f.few_rules;
      few_attributes = f.few_attributes;
      attributes = f.attributes;
      rules = (differ g.rules new perm f.rules.0, each g.rules new perm (IsFine (of g.attributes new)) (fine_all g.attributes g.rules new g.rules keeps f.rules.1));
    })

-- ---- by rising id

abbrev before : Entry → Entry → Bool
before x y = nat_lt x.rule.id y.rule.id

lt_chain : (a b c : ℕ) → nat_lt a b ≡ true → nat_lt b c ≡ true → nat_lt a c ≡ true
lt_chain a b c h k = grind (arith, nat_tests)

lt_never : (a : ℕ) → nat_lt a a ≡ true → ⊥
lt_never a h = grind (arith, nat_tests)

strict : IsStrict before
strict = record { chain = λ x y z h k. lt_chain x.rule.id y.rule.id z.rule.id h k; never = λ x h. lt_never x.rule.id h }

rises : (xs : List Entry) → IsRising xs → Rises before xs
rises [] h = tt
rises (x ∷ xs) h = (weaker (λ (y : Entry). x.rule.id < y.rule.id) (λ (y : Entry). before x y ≡ true) (λ y k. lt_is x.rule.id y.rule.id k) xs h.0, rises xs h.1)

reordered_ranked : (attributes : List Attribute) (rules new : List Entry) → IsPermutation rules new → IsRising rules
    → Differ new → ranked (of attributes new) ≡ of attributes rules
unfolding ranked
reordered_ranked attributes rules new perm rising d =
    let k = among [] new tt d (all_none new) in
    let only = k.each (λ (z : Entry). Among z new) tt (all_from (λ (z : Entry). Among z new) new (λ z i. i)) in
    let all : (z : Entry) → Among z new → Among z (with_rules [] new) = λ z i. (
    let found = any_at (λ (e : Entry). nat_eq e.rule.id z.rule.id) (with_rules [] new)
    (k.any (λ (e : Entry). nat_eq e.rule.id z.rule.id) (any_of (λ (e : Entry). nat_eq e.rule.id z.rule.id) new z i (own_id z.rule.id))) in
    let there = all_at (λ (w : Entry). Among w new) (with_rules [] new) found.0 only found.1 in
    subst (λ (w : Entry). Among w (with_rules [] new)) (one_of new d found.0 z there i (is_id found.0.rule.id z.rule.id found.2)) found.1) in
    ap (of attributes)
    (one_rising before strict (with_rules [] new) rules (rises (with_rules [] new) (ranked_rises (of attributes new))) (rises rules rising)
    (λ z i. from rules new perm z (all_at (λ (w : Entry). Among w new) (with_rules [] new) z only i))
    (λ z i. all z (to rules new perm z i)))

-- ---- whole sources

reordered_changed : (old s : Sources) (new : List Entry) → AreSound s → IsPermutation s.grammar.rules new
    → changed old (edit.Whole (with_entries s new)) ≡ Ok s
reordered_changed old s new sound perm =
    let d = differ s.grammar.rules new perm (faultless s.grammar sound.grammar).rules.0 in
    rw (
      reordered_valid s.grammar new perm sound.grammar,
      reordered_ranked s.grammar.attributes s.grammar.rules new
          perm sound.rising d,
      fits (length s.lots) sound.few,
      good_accepted s.grammar s.lots sound.plain sound.good,
    ) refl

pub whole_sets_them : WholeSetsThem
unfolding apply
whole_sets_them old s new budget sound fit perm = ap (within budget) (reordered_changed old s new sound perm) ∙ rw fit refl
