-- Rules by rising id are the same exactly where the rules of each id are.
use Rattle.std.proofs.Common.{◌≡◌, ◌↔◌, IsTrue, ℕ, ◌+◌, ◌<◌, ◌≤◌, ◌⊎◌, inl, inr, List, [], ◌∷◌, ◌++◌, All}
use Rattle.std.proofs.Common.{drop, get_or, map, filter, refl, ap, sym, ◌∙◌, subst, arith, cond, Bool, true, false}
use Rattle.std.proofs.Common.{nat_lt, nat_eq, ◌&&◌, if◌then◌else◌, Some, None, append_assoc}
use Rattle.std.specs.Prelude.{Option, position}
use Rattle.std.proofs.lemmas.List.{append-nil}
use Rattle.std.proofs.lemmas.List.Elements.{All-nil, All-cons, All-head, All-tail, filter-append}
use Rattle.std.proofs.lemmas.Bool.Decides.{nat_tests}
use Rattle.cga_rule.specs.declared.grammar.Entry.{Entry}
use Rattle.cga_rule.specs.declared.rule.Rule.{Rule}
use Rattle.cga_check.specs.Groups.{is_of, rules_of, placed, placed_all, by_id}
use Rattle.cga_depend.specs.Agreement.{is_one, rules_with, AgreesAt}
use Rattle.cga_depend.proofs.Lists.{behind, all_behind, filter_none, filter_first, filter_some}
use Rattle.cga_fraction.proofs.Door.{eq_from_nat_eq as equal, le_from_nat_lt as above, lt_from_nat_lt as below, nat_eq-same as is_self}
use Rattle.cga_check.proofs.Door.{Rising, least_first, placed_cons, placed_nil, rising_placed}

abbrev with_id : ℕ → List Rule → List Rule
with_id id rules = filter (λ (r : Rule). nat_eq r.id id) rules

-- ---- a rule put among others

is_other : (id n m : ℕ) → id < n → n ≤ m → nat_eq m id ≡ false
is_other id n m h k = grind (arith, nat_tests)

-- ---- the rules of an id among rules by rising id

skip_step : (b : Bool) (x : Rule) (more : List Rule) → b ≡ false → more ≡ [] → cond b (x ∷ more) more ≡ []
skip_step b x more e none = ap (λ t. cond t (x ∷ more) more) e ∙ none

none_below : (id n : ℕ) (xs : List Rule) → id < n → All (λ (y : Rule). n ≤ y.id) xs → with_id id xs ≡ []
none_below id n [] lt h = refl
none_below id n (x ∷ xs) lt h =
    skip_step (nat_eq x.id id) x (with_id id xs) (is_other id n x.id lt (All-head (λ (y : Rule). n ≤ y.id) x xs h))
    (none_below id n xs lt (All-tail (λ (y : Rule). n ≤ y.id) x xs h))

front_step : (b : Bool) (r : Rule) (more : List Rule) → (b ≡ true → more ≡ [])
    → cond b (r ∷ more) more ≡ more ++ cond b (r ∷ []) []
front_step true r more h = ap (λ l. r ∷ l) (h refl) ∙ ap (λ l. l ++ r ∷ []) (sym (h refl))
front_step false r more h = sym (append-nil more)

back_step : (b : Bool) (x : Rule) (more kept last : List Rule) → more ≡ kept ++ last
    → cond b (x ∷ more) more ≡ cond b (x ∷ kept) kept ++ last
back_step true x more kept last e = ap (λ l. x ∷ l) e
back_step false x more kept last e = e

put_step : (id : ℕ) (r x : Rule) (xs more : List Rule) (b : Bool) → nat_lt r.id x.id ≡ b → Rising (x ∷ xs)
    → with_id id more ≡ with_id id xs ++ with_id id (r ∷ [])
    → with_id id (if b then r ∷ x ∷ xs else x ∷ more) ≡ with_id id (x ∷ xs) ++ with_id id (r ∷ [])
put_step id r x xs more true e h before =
    let le : x.id ≤ x.id = omega arith in
    front_step (nat_eq r.id id) r (with_id id (x ∷ xs)) (λ same.
    none_below id x.id (x ∷ xs) (subst (λ n. n < x.id) (equal r.id id same) (below r.id x.id e)) (least_first x x xs le h))
put_step id r x xs more false e h before = back_step (nat_eq x.id id) x (with_id id more) (with_id id xs) (with_id id (r ∷ [])) before

put_last : (id : ℕ) (r : Rule) (xs : List Rule) → Rising xs
    → with_id id (placed r xs) ≡ with_id id xs ++ with_id id (r ∷ [])
put_last id r [] h = ap (with_id id) (placed_nil r)
put_last id r (x ∷ xs) h = ap (with_id id) (placed_cons r x xs) ∙ put_step id r x xs (placed r xs) (nat_lt r.id x.id) refl h (put_last id r xs h.1)

all_rising : (ranked xs : List Rule) → Rising ranked → Rising (placed_all ranked xs)
all_rising ranked [] h = h
all_rising ranked (x ∷ xs) h = all_rising (placed x ranked) xs (rising_placed x ranked h)

all_kept : (id : ℕ) (ranked xs : List Rule) → Rising ranked
    → with_id id (placed_all ranked xs) ≡ with_id id ranked ++ with_id id xs
all_kept id ranked [] h = sym (append-nil (with_id id ranked))
all_kept id ranked (x ∷ xs) h =
    all_kept id (placed x ranked) xs (rising_placed x ranked h)
    ∙ (ap (λ l. l ++ with_id id xs) (put_last id x ranked h)
    ∙ (append_assoc (with_id id ranked) (with_id id (x ∷ [])) (with_id id xs)
    ∙ ap (λ l. with_id id ranked ++ l) (sym (filter-append (λ (r : Rule). nat_eq r.id id) (x ∷ []) xs))))

by_id_rises : (xs : List Rule) → Rising (by_id xs)
unfolding by_id
by_id_rises xs = all_rising [] xs tt

by_id_keeps : (id : ℕ) (xs : List Rule) → with_id id (by_id xs) ≡ with_id id xs
unfolding by_id
by_id_keeps id xs = all_kept id [] xs tt

-- ---- two lists by rising id

first_is : (s : Rule) (more : List Rule) → with_id s.id (s ∷ more) ≡ s ∷ with_id s.id more
first_is s more = ap (λ b. cond b (s ∷ with_id s.id more) (with_id s.id more)) (is_self s.id)

not_empty : (t : Rule) (more : List Rule) → [] ≡ t ∷ more → ⊥
not_empty t more e = cc

least_step : (s t : Rule) (S T : List Rule) (b : Bool) → nat_lt t.id s.id ≡ b → Rising (s ∷ S)
    → with_id t.id (s ∷ S) ≡ with_id t.id (t ∷ T) → s.id ≤ t.id
least_step s t S T true e h same =
    let le : s.id ≤ s.id = omega arith in
    absurd (not_empty t (with_id t.id T) (sym (none_below t.id s.id (s ∷ S) (below t.id s.id e) (least_first s s S le h)) ∙ (same ∙ first_is t T)))
least_step s t S T false e h same = above t.id s.id e

tail_step : (b : Bool) (s t : Rule) (X Y : List Rule) → (b ≡ true → X ≡ Y) → cond b (s ∷ X) X ≡ cond b (t ∷ Y) Y → X ≡ Y
tail_step true s t X Y h e = h refl
tail_step false s t X Y h e = e

tails : (s t : Rule) (S T : List Rule) → s.id ≡ t.id → with_id s.id S ≡ with_id s.id T → (id : ℕ)
    → with_id id (s ∷ S) ≡ with_id id (t ∷ T) → with_id id S ≡ with_id id T
tails s t S T ids at id e =
    tail_step (nat_eq s.id id) s t (with_id id S) (with_id id T) (λ yes. subst (λ n. with_id n S ≡ with_id n T) (equal s.id id yes) at)
    (e ∙ ap (λ n. cond (nat_eq n id) (t ∷ with_id id T) (with_id id T)) (sym ids))

rising_same : (S T : List Rule) → Rising S → Rising T → ((id : ℕ) → with_id id S ≡ with_id id T) → S ≡ T
rising_same [] [] h k e = refl
rising_same [] (t ∷ T) h k e = absurd (not_empty t (with_id t.id T) (e t.id ∙ first_is t T))
rising_same (s ∷ S) [] h k e = absurd (not_empty s (with_id s.id S) (sym (e s.id) ∙ first_is s S))
rising_same (s ∷ S) (t ∷ T) h k e =
    let le = least_step s t S T (nat_lt t.id s.id) refl h (e t.id) in
    let ge = least_step t s T S (nat_lt s.id t.id) refl k (sym (e s.id)) in
    let ids : s.id ≡ t.id = omega (arith, le, ge) in
    let both : s ∷ with_id s.id S ≡ t ∷ with_id s.id T =
    sym (first_is s S) ∙ (e s.id ∙ (ap (λ n. with_id n (t ∷ T)) ids ∙ (first_is t T ∙ ap (λ n. t ∷ with_id n T) (sym ids)))) in
    let first : s ≡ t = cc in
    let at : with_id s.id S ≡ with_id s.id T = cc in
    let rest = rising_same S T h.1 k.1 (λ id. tails s t S T ids at id (e id)) in
    λ i. first i ∷ rest i

-- ---- entries

with_step : (b c : Bool) (e : Entry) (X Y : List Entry) (symbol : List ℕ) (id : ℕ) → nat_eq e.rule.id id ≡ c
    → map (λ (x : Entry). x.rule) X ≡ with_id id (map (λ (x : Entry). x.rule) Y)
    → map (λ (x : Entry). x.rule) (cond (b && c) (e ∷ X) X) ≡ with_id id
    (map (λ (x : Entry). x.rule) (cond b (e ∷ Y) Y))
with_step true true e X Y symbol id is h = ap (λ l. e.rule ∷ l) h ∙ ap (λ t. cond t (e.rule ∷ with_id id (map (λ (x : Entry). x.rule) Y)) (with_id id (map (λ (x : Entry). x.rule) Y))) (sym is)
with_step true false e X Y symbol id is h = h ∙ ap (λ t. cond t (e.rule ∷ with_id id (map (λ (x : Entry). x.rule) Y)) (with_id id (map (λ (x : Entry). x.rule) Y))) (sym is)
with_step false c e X Y symbol id is h = h

with_is : (symbol : List ℕ) (id : ℕ) (es : List Entry) → rules_with symbol id es ≡ with_id id (rules_of es symbol)
unfolding rules_of
with_is symbol id [] = refl
with_is symbol id (e ∷ es) = with_step (is_of symbol e) (nat_eq e.rule.id id) e (filter (is_one symbol id) es) (filter (is_of symbol) es) symbol id refl (with_is symbol id es)

found_step : (P : ℕ → Type 0) (e : Entry) (id : ℕ) (X : List Entry) (b c : Bool) → nat_eq e.rule.id id ≡ c
    → (b ≡ true → P e.rule.id)
    → (map (λ (x : Entry). x.rule) X ≡ []) ⊎ P id → (map (λ (x : Entry). x.rule) (cond (b && c) (e ∷ X) X) ≡ []) ⊎ P id
found_step P e id X true true is p h = inr (subst P (equal e.rule.id id is) (p refl))
found_step P e id X true false is p h = h
found_step P e id X false c is p h = h

-- what holds of the ids of entries of the symbol holds of an id, or there is none of it
found : (symbol : List ℕ) (P : ℕ → Type 0) (id : ℕ) (es : List Entry)
    → All (λ (e : Entry). is_of symbol e ≡ true → P e.rule.id) es → (rules_with symbol id es ≡ []) ⊎ P id
found symbol P id [] h = inl refl
found symbol P id (e ∷ es) h =
    found_step P e id (filter (is_one symbol id) es) (is_of symbol e) (nat_eq e.rule.id id) refl
    (All-head (λ (x : Entry). is_of symbol x ≡ true → P x.rule.id) e es h)
    (found symbol P id es (All-tail (λ (x : Entry). is_of symbol x ≡ true → P x.rule.id) e es h))

each_id : (X Y : List Rule) → (X ≡ []) ⊎ (X ≡ Y) → (Y ≡ []) ⊎ (X ≡ Y) → X ≡ Y
each_id X Y (inl e) (inl d) = e ∙ sym d
each_id X Y (inl e) (inr s) = s
each_id X Y (inr s) d = s

module _ (symbol : List ℕ) (xs ys : List Entry) where
  abbrev Same : ℕ → Type 0
  Same id = rules_with symbol id xs ≡ rules_with symbol id ys

  pub agreed : All (AgreesAt symbol xs ys) xs → All (AgreesAt symbol xs ys) ys
      → by_id (rules_of xs symbol) ≡ by_id (rules_of ys symbol)
  agreed h k =
      rising_same (by_id (rules_of xs symbol)) (by_id (rules_of ys symbol)) (by_id_rises (rules_of xs symbol)) (by_id_rises (rules_of ys symbol)) (λ id.
      let at : Same id = each_id (rules_with symbol id xs) (rules_with symbol id ys) (found symbol Same id xs h) (found symbol Same id ys k) in
      by_id_keeps id (rules_of xs symbol) ∙ (sym (with_is symbol id xs) ∙ (at ∙ (with_is symbol id ys ∙ sym (by_id_keeps id (rules_of ys symbol))))))

  same_at : by_id (rules_of xs symbol) ≡ by_id (rules_of ys symbol) → (id : ℕ) → Same id
  same_at e id =
      with_is symbol id xs ∙ (sym (by_id_keeps id (rules_of xs symbol)) ∙ (ap (with_id id) e ∙ (by_id_keeps id (rules_of ys symbol) ∙ sym (with_is symbol id ys))))

  pub agrees : by_id (rules_of xs symbol) ≡ by_id (rules_of ys symbol) → (zs : List Entry)
      → All (AgreesAt symbol xs ys) zs
  agrees e [] = All-nil (AgreesAt symbol xs ys)
  agrees e (z ∷ zs) = All-cons (AgreesAt symbol xs ys) z zs (λ is. same_at e z.rule.id) (agrees e zs)

-- ---- the rules with an id, one after the other

module _ (symbol : List ℕ) (id : ℕ) where
  pub with_none : (es : List Entry) (r : Option ℕ) → r ≡ position (is_one symbol id) es → r ≡ None
      → rules_with symbol id es ≡ []
  with_none es r is none = ap (map (λ (x : Entry). x.rule)) (filter_none (is_one symbol id) es (sym is ∙ none))

  pub with_first : (es : List Entry) (r : Option ℕ) (i : ℕ) (x : Entry) → r ≡ position (is_one symbol id) es
      → r ≡ Some i → x ≡ get_or es i x
      → rules_with symbol id es ≡ (get_or es i x).rule ∷ rules_with symbol id (behind (i + 1) es)
  with_first es r i x is some at =
      ap (map (λ (y : Entry). y.rule)) (filter_first (is_one symbol id) es i x (sym is ∙ some) at)
      ∙ (ap (λ (y : Entry). y.rule ∷ rules_with symbol id (drop (i + 1) es)) at
      ∙ ap (λ l. (get_or es i x).rule ∷ rules_with symbol id l) (sym (all_behind (i + 1) es)))

  not_mapped : (es : List Entry) → map (λ (x : Entry). x.rule) es ≡ [] → es ≡ []
  not_mapped [] e = refl
  not_mapped (x ∷ es) e = absurd (cc)

  pub with_some : (es : List Entry) (r : Option ℕ) (i : ℕ) → r ≡ position (is_one symbol id) es → r ≡ Some i
      → rules_with symbol id es ≡ [] → ⊥
  with_some es r i is some none = filter_some (is_one symbol id) es i (sym is ∙ some) (not_mapped (filter (is_one symbol id) es) none)

pub firsts_same : (X Y A B : List Rule) (x y : Rule) (r : Bool) → X ≡ x ∷ A → Y ≡ y ∷ B → x ≡ y → (IsTrue r ↔ (A ≡ B))
    → IsTrue r ↔ (X ≡ Y)
firsts_same X Y A B x y r d e same rest =
    (λ h. d ∙ ((λ i. same i ∷ rest.0 h i) ∙ sym e), λ h. let tails : A ≡ B = cc in rest.1 tails)

pub firsts_differ : (X Y A B : List Rule) (x y : Rule) (r : Bool) → X ≡ x ∷ A → Y ≡ y ∷ B → (IsTrue r ↔ (x ≡ y))
    → r ≡ false → IsTrue r ↔ (X ≡ Y)
firsts_differ X Y A B x y r d e same off = (λ h. absurd (cc), λ h. let firsts : x ≡ y = cc in same.1 firsts)
