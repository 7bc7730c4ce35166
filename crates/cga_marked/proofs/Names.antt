-- Names, and what stands under them.
use Rattle.std.proofs.Common.{◌≡◌, ◌⊎◌, ℕ, zero, suc, ◌+◌, ◌-◌, ◌<◌, ◌≤◌, List, [], ◌∷◌, length, take, true}
use Rattle.std.proofs.Common.{false, cond, refl, sym, ap, subst, ◌∙◌, arith, inl, inr, true≢false, Option, Some, None}
use Rattle.std.proofs.Common.{slice_get}
use Rattle.std.specs.List.{position_or_len, IsDistinct, AllByRecursion, Contains}
use Rattle.std.specs.Map.{lookup, lookup_key}
use Rattle.std.specs.List.Sorted.{IsPermutation}
use Rattle.std.proofs.lemmas.List.Sorted.{IsPermutation-map, IsPermutation-sym, Contains-permutation}
use Rattle.std.proofs.lemmas.List.Elements.{Contains-append_right}
use Rattle.std.proofs.lemmas.Map.Keys.{IsDistinct-head, IsDistinct-IsPermutation}
use Rattle.std.proofs.lemmas.Map.Made.{Contains-tail, lookup_key_passes}
use Rattle.std.proofs.lemmas.Option.{slice_get_within, get_or_from_slice_get}
use Rattle.indexmap.specs.IndexMap.{insert_entry}
use Rattle.cga_marked.specs.Map.{Named, same_name, names, AreApart, put_back}
use Rattle.std.proofs.lemmas.Bool.{cases_Bool as either}
pub use Rattle.cga_fraction.proofs.Door.{slice_get_from_Contains as at_contains}
use Rattle.cga_fraction.proofs.Door.{cases_Option_nat as opt_cases, eq_from_pointwise as name_sound, pointwise-order as name_order, pointwise-same as name_own}

-- ---- the entries once an id is put under a name

pub record IsPut (old new : Named) (name : List ℕ) (id place : ℕ) (former : Option ℕ) : Type 0 where
  pub here : slice_get new place ≡ Some (name, id)
  pub back : put_back former place new ≡ old
  pub last : former ≡ None → place + 1 ≡ length new
  pub front : (n : ℕ) → n ≤ place → take n new ≡ take n old
  pub within : place < length new

put_back_cons : (e : List ℕ × ℕ) (es : Named) (former : Option ℕ) (place : ℕ) → 0 < length es
    → put_back former (suc place) (e ∷ es) ≡ e ∷ put_back former place es
put_back_cons e [] None place h = absurd (omega (arith, h))
put_back_cons e (f ∷ es) None place h = let a : suc (suc (length es)) - 1 ≡ suc (suc (length es) - 1) = omega arith in ap (λ k. take k (e ∷ f ∷ es)) a
put_back_cons e es (Some id) place h = refl

take_none : (n : ℕ) (xs ys : Named) → n ≤ 0 → take n xs ≡ take n ys
take_none zero xs ys h = refl
take_none (suc n) xs ys h = absurd (omega (arith, h))

take_one_more : (n : ℕ) (place : ℕ) (e : List ℕ × ℕ) (xs ys : Named) → ((m : ℕ) → m ≤ place → take m xs ≡ take m ys)
    → n ≤ suc place → take n (e ∷ xs) ≡ take n (e ∷ ys)
take_one_more zero place e xs ys f h = refl
take_one_more (suc n) place e xs ys f h = ap (λ l. e ∷ l) (f n (omega (arith, h)))

put_first : (e : List ℕ × ℕ) (es : Named) (name : List ℕ) (id : ℕ) → e.0 ≡ name
    → IsPut (e ∷ es) ((e.0, id) ∷ es) name id 0 (Some e.1)
put_first e es name id same = record {
  here = ap (λ k. Some (k, id)) same;
  back = refl;
  last = λ h. let x : Some e.1 ≡ None = h in absurd (cc);
  front = λ n h. take_none n _ _ h;
  within = omega arith;
}

put_later : (e : List ℕ × ℕ) (es new : Named) (name : List ℕ) (id place : ℕ) (former : Option ℕ)
    → IsPut es new name id place former → IsPut (e ∷ es) (e ∷ new) name id (suc place) former
put_later e es new name id place former p = record {
  here = p.here;
  back = put_back_cons e new former place (let w = p.within in omega (arith, w)) ∙ ap (λ l. e ∷ l) p.back;
  last = λ h. let w = p.last h in omega (arith, w);
  front = λ n h. take_one_more n place e new es p.front h;
  within = let w = p.within in omega (arith, w);
}

pub is_put : (es : Named) (name : List ℕ) (id : ℕ)
    → IsPut es (insert_entry same_name es name id) name id (position_or_len (same_name name) (names es))
    (lookup (same_name name) es)
is_put [] name id = record { here = refl; back = refl; last = λ h. refl; front = λ n h. take_none n _ _ h; within = omega arith }
is_put (e ∷ es) name id = elim (either (same_name name e.0)) [
  | inl y ↦ rw y (put_first e es name id (sym (name_sound name e.0 y)))
  | inr n ↦ (
      let k : suc (position_or_len (same_name name) (names es)) ≡ 1 + position_or_len (same_name name) (names es) = omega arith in
      rw n (subst (λ p. IsPut (e ∷ es) (e ∷ insert_entry same_name es name id) name id p
      (lookup (same_name name) es)) k (put_later e es (insert_entry same_name es name id) name id
      (position_or_len (same_name name) (names es)) (lookup (same_name name) es) (is_put es name id))))
]

-- a name that isn't among the first so many stands behind them, or nowhere
pub place_after : (es : Named) (name : List ℕ) (n : ℕ) → n ≤ length es → lookup (same_name name) (take n es) ≡ None
    → n ≤ position_or_len (same_name name) (names es)
place_after [] name n h free = omega (arith, h)
place_after (e ∷ es) name zero h free = omega arith
place_after (e ∷ es) name (suc n) h free = elim (either (same_name name e.0)) [
  | inl y ↦ (let x : Some e.1 ≡ None = sym (ap (λ b. cond b (Some e.1) (lookup (same_name name) (take n es))) y) ∙ free in absurd (cc))
  | inr f ↦ (
      let still : lookup (same_name name) (take n es) ≡ None = sym (ap (λ b. cond b (Some e.1) (lookup (same_name name) (take n es))) f) ∙ free in
      let w = place_after es name n (omega (arith, h)) still in
      rw f (omega (arith, w)))
]

-- ---- what stands under a name

-- a member of the list
pub under_contains : (es : Named) (name : List ℕ) (c : ℕ) → lookup (same_name name) es ≡ Some c
    → (i : ℕ) × (slice_get es i ≡ Some (name, c))
under_contains [] name c h = let x : None ≡ Some c = h in absurd (cc)
under_contains (e ∷ es) name c h = elim (either (same_name name e.0)) [
  | inl y ↦ (
      let x : Some e.1 ≡ Some c = sym (ap (λ b. cond b (Some e.1) (lookup (same_name name) es)) y) ∙ h in
      let z : e.1 ≡ c = cc in
      let k : e.0 ≡ name = sym (name_sound name e.0 y) in
      (0, λ i. Some (k i, z i)))
  | inr n ↦ (let w = under_contains es name c (sym (ap (λ b. cond b (Some e.1) (lookup (same_name name) es)) n) ∙ h) in (suc w.0, w.1))
]

-- where no name is the given one, no entry of it stands at an index
pub none_later : (es : Named) (name : List ℕ) (i c : ℕ) → AllByRecursion (λ y. same_name name y ≡ false) (names es)
    → slice_get es i ≡ Some (name, c) → ⊥
none_later [] name i c a h = let x : None ≡ Some (name, c) = h in absurd (cc)
none_later (e ∷ es) name zero c a h =
    let x : Some e ≡ Some (name, c) = h in
    let y : e ≡ (name, c) = cc in
    absurd (true≢false (sym (name_own name) ∙ ap (same_name name) (sym (ap (λ (p : List ℕ × ℕ). p.0) y)) ∙ a.0))
none_later (e ∷ es) name (suc i) c a h = none_later es name i c a.1 h

-- where names are apart, each member stands under its name
pub contains_under : (es : Named) (name : List ℕ) (i c : ℕ) → AreApart es → slice_get es i ≡ Some (name, c)
    → lookup (same_name name) es ≡ Some c
unfolding IsDistinct
contains_under [] name i c a h = let x : None ≡ Some (name, c) = h in absurd (cc)
contains_under (e ∷ es) name zero c a h =
    let x : Some e ≡ Some (name, c) = h in
    let y : e ≡ (name, c) = cc in
    let t : same_name name e.0 ≡ true = ap (same_name name) (ap (λ (p : List ℕ × ℕ). p.0) y) ∙ name_own name in
    ap (λ b. cond b (Some e.1) (lookup (same_name name) es)) t ∙ ap (λ (p : List ℕ × ℕ). Some p.1) y
contains_under (e ∷ es) name (suc i) c a h = elim (either (same_name name e.0)) [
  | inl y ↦ absurd (none_later es name i c (subst (λ k. AllByRecursion (λ y. same_name k y ≡ false) (names es)) (sym (name_sound name e.0 y)) a.0) h)
  | inr n ↦ ap (λ b. cond b (Some e.1) (lookup (same_name name) es)) n ∙ contains_under es name i c a.1 h
]

-- names that are apart, of the first so many
all_front : (P : List ℕ → Type 0) (es : Named) (n : ℕ) → AllByRecursion P (names es)
    → AllByRecursion P (names (take n es))
all_front P es zero a = tt
all_front P [] (suc n) a = tt
all_front P (e ∷ es) (suc n) a = (a.0, all_front P es n a.1)

pub apart_front : (es : Named) (n : ℕ) → AreApart es → AreApart (take n es)
unfolding IsDistinct
apart_front es zero a = tt
apart_front [] (suc n) a = tt
apart_front (e ∷ es) (suc n) a = (all_front (λ y. same_name e.0 y ≡ false) es n a.0, apart_front es n a.1)

-- an entry of the first so many
pub front_at : (es : Named) (n i : ℕ) (e : List ℕ × ℕ) → i < n → slice_get es i ≡ Some e
    → slice_get (take n es) i ≡ Some e
front_at es zero i e h g = absurd (omega (arith, h))
front_at [] (suc n) i e h g = g
front_at (x ∷ es) (suc n) zero e h g = g
front_at (x ∷ es) (suc n) (suc i) e h g = front_at es n i e (omega (arith, h)) g

pub at_front : (es : Named) (n i : ℕ) (e : List ℕ × ℕ) → slice_get (take n es) i ≡ Some e
    → (i < n) × (slice_get es i ≡ Some e)
at_front es zero i e g = let x : None ≡ Some e = g in absurd (cc)
at_front [] (suc n) i e g = let x : None ≡ Some e = g in absurd (cc)
at_front (x ∷ es) (suc n) zero e g = (omega arith, g)
at_front (x ∷ es) (suc n) (suc i) e g = let w = at_front es n i e g in let l = w.0 in (omega (arith, l), w.1)

places_apart : (i j : ℕ) → (i ≡ j) ⊎ ((i < j) ⊎ (j < i))
places_apart zero zero = inl refl
places_apart zero (suc j) = inr (inl (omega arith))
places_apart (suc i) zero = inr (inr (omega arith))
places_apart (suc i) (suc j) = elim (places_apart i j) [
  | inl q ↦ inl (ap (λ k. suc k) q)
  | inr w ↦ elim w [ inl lt ↦ inr (inl (omega (arith, lt))) | inr gt ↦ inr (inr (omega (arith, gt))) ]
]

-- no two entries have one name
twice : (es : Named) (i j : ℕ) (name : List ℕ) (b c : ℕ) → AreApart es → slice_get es i ≡ Some (name, b)
    → slice_get es j ≡ Some (name, c) → i < j → ⊥
unfolding IsDistinct
twice [] i j name b c a g h lt = let x : None ≡ Some (name, b) = g in absurd (cc)
twice (e ∷ es) zero zero name b c a g h lt = absurd (omega (arith, lt))
twice (e ∷ es) zero (suc j) name b c a g h lt =
    let x : Some e ≡ Some (name, b) = g in
    let y : e ≡ (name, b) = cc in
    none_later es name j c (subst (λ k. AllByRecursion (λ y. same_name k y ≡ false) (names es)) (ap (λ (p : List ℕ × ℕ). p.0) y) a.0) h
twice (e ∷ es) (suc i) zero name b c a g h lt = absurd (omega (arith, lt))
twice (e ∷ es) (suc i) (suc j) name b c a g h lt = twice es i j name b c a.1 g h (omega (arith, lt))

-- a name stands at one place
pub place_once : (es : Named) (i j : ℕ) (name : List ℕ) (b c : ℕ) → AreApart es → slice_get es i ≡ Some (name, b)
    → slice_get es j ≡ Some (name, c) → i ≡ j
place_once es i j name b c a g h = elim (places_apart i j) [
  | inl q ↦ q
  | inr w ↦ absurd (elim w [ inl lt ↦ twice es i j name b c a g h lt | inr gt ↦ twice es j i name c b a h g gt ])
]

-- an entry behind the first so many is under none of their names
pub none_in_front : (es : Named) (n i : ℕ) (name : List ℕ) (c : ℕ) → AreApart es → n ≤ i
    → slice_get es i ≡ Some (name, c) → lookup (same_name name) (take n es) ≡ None
none_in_front es n i name c a le h = elim (opt_cases (lookup (same_name name) (take n es))) [
  | inl q ↦ q
  | inr w ↦ (
      let u = under_contains (take n es) name w.0 w.1 in
      let v = at_front es n u.0 (name, w.0) u.1 in
      let l = v.0 in
      absurd (twice es u.0 i name w.0 c a v.1 h (omega (arith, l, le))))
]

pub none_front : (es : Named) (n : ℕ) (name : List ℕ) → lookup (same_name name) es ≡ None
    → lookup (same_name name) (take n es) ≡ None
none_front es zero name h = refl
none_front [] (suc n) name h = refl
none_front (e ∷ es) (suc n) name h = elim (either (same_name name e.0)) [
  | inl y ↦ (let x : Some e.1 ≡ None = sym (ap (λ b. cond b (Some e.1) (lookup (same_name name) es)) y) ∙ h in absurd (cc))
  | inr f ↦ ap (λ b. cond b (Some e.1) (lookup (same_name name) (take n es))) f ∙ none_front es n name (sym (ap (λ b. cond b (Some e.1) (lookup (same_name name) es)) f) ∙ h)
]

-- ---- members

-- the entry at an index is contained
pub contains_at : (es : Named) (i : ℕ) (e : List ℕ × ℕ) → slice_get es i ≡ Some e → Contains es e
contains_at es i e h = (i, slice_get_within es i e h, get_or_from_slice_get es i e e h)

-- ---- a member more, or less

-- names that stand apart do in any order
pub apart_moved : (es rest : Named) → AreApart rest → IsPermutation es rest → AreApart es
apart_moved es rest a p = IsDistinct-IsPermutation same_name name_order (names rest) (names es) (IsPermutation-map (λ (e : List ℕ × ℕ). e.0) rest es (IsPermutation-sym es rest p)) a

-- a name that isn't there
pub apart_out : (es rest : Named) (name : List ℕ) (c : ℕ) → AreApart es → IsPermutation es ((name, c) ∷ rest)
    → AllByRecursion (λ y. same_name name y ≡ false) (names rest)
apart_out es rest name c a p = IsDistinct-head same_name name (names rest)
    (IsDistinct-IsPermutation same_name name_order (names es) (names ((name, c) ∷ rest))
    (IsPermutation-map (λ (e : List ℕ × ℕ). e.0) es ((name, c) ∷ rest) p) a)

-- an entry that is left was there
pub out_still : (es rest : Named) (gone : List ℕ × ℕ) → IsPermutation es (gone ∷ rest) → (e : List ℕ × ℕ)
    → Contains rest e → Contains es e
out_still es rest gone p e m = Contains-permutation (gone ∷ rest) es e (IsPermutation-sym es (gone ∷ rest) p) (Contains-append_right (gone ∷ []) rest e m)

-- an entry that isn't the one taken out is left
pub out_left : (es rest : Named) (gone : List ℕ × ℕ) → IsPermutation es (gone ∷ rest) → (e : List ℕ × ℕ)
    → (gone ≡ e → ⊥) → Contains es e → Contains rest e
out_left es rest gone p e apart m = Contains-tail gone rest e apart (Contains-permutation es (gone ∷ rest) e p m)

-- where no name is the given one, no entry of it is contained
pub none_among : (es : Named) (name : List ℕ) (c : ℕ) → AllByRecursion (λ y. same_name name y ≡ false) (names es)
    → Contains es (name, c) → ⊥
none_among es name c a m = let w = at_contains es (name, c) m in none_later es name w.0 c a w.1

-- a key that a look-up finds is the name itself
pub key_is : (es : Named) (name key : List ℕ) → Some key ≡ lookup_key (same_name name) es → name ≡ key
key_is es name key h = name_sound name key (lookup_key_passes (same_name name) es key (sym h))
