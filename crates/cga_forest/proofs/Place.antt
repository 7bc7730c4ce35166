-- A child more in the list of new children.
use Rattle.std.proofs.Common.{◌≡◌, ◌≢◌, ℕ, zero, suc, List, [], ◌∷◌, ◌++◌, length, Bool, true, false, ◌⊎◌, inl, inr, refl, ap, sym, ◌∙◌, arith, subst}
use Rattle.std.specs.Prelude.{Option, Some, None, slice_get, IsSome, if◌then◌else◌}
use Rattle.cga_forest.specs.declared.slot_entry.SlotEntry.{SlotEntry}
use Rattle.cga_forest.specs.declared.node.Node.{Node}
use Rattle.cga_forest.specs.View.{IsNewEntry, kids}
use Rattle.cga_forest.specs.Tree.{IsPlaced, stay_of, stay_child}
use Rattle.cga_fraction.proofs.Door.{eq_or_ne as nat_cases}
use Rattle.cga_marked.proofs.Door.{get_kept, get_last}
use Rattle.std.proofs.lemmas.Bool.{cases_Bool as bool_cases}

pub get_more : (xs : List ℕ) (k i c : ℕ) → slice_get (xs ++ k ∷ []) i ≡ Some c
    → (slice_get xs i ≡ Some c) ⊎ ((i ≡ length xs) × (c ≡ k))
get_more [] k zero c h = inr (refl, (cc))
get_more [] k (suc i) c h = absurd (cc)
get_more (x ∷ xs) k zero c h = inl h
get_more (x ∷ xs) k (suc i) c h = elim (get_more xs k i c h) [ inl y ↦ inl y | inr w ↦ inr (ap suc w.0, w.1) ]

IsNewEntry-same : (s t : Option SlotEntry) (above : Option ℕ) (w : Node) (depth place : ℕ) (marking : Bool) → t ≡ s
    → IsNewEntry s above w depth place marking → IsNewEntry t above w depth place marking
IsNewEntry-same s t above w depth place marking q e = rw q e

module _ (old now : ℕ → Option SlotEntry) (id depth : ℕ) (marking : Bool) (olds : List ℕ) (news : List Node)
    (made : List ℕ) (p : IsPlaced old now id depth marking olds news made) (w : Node) (asked : slice_get news (length made) ≡ Some w) where
  pub IsPlaced-stays : (k : ℕ) → slice_get olds (length made) ≡ Some k → stay_of (old k) (Some w) ≡ true
      → IsPlaced old now id depth marking olds news (made ++ k ∷ [])
  IsPlaced-stays k at on = record {
    each = λ i c h. elim (get_more made k i c h) [
      | inl y ↦ p.each i c y
      | inr q ↦ (w, ap (slice_get news) q.0 ∙ asked, inl (ap (slice_get olds) q.0 ∙ at ∙ ap (λ x. Some x) (sym q.1), ap (λ x. stay_of (old x) (Some w)) q.1 ∙ on))
    ];
    rest = p.rest;
    created = λ c h. elim (p.created c h) [ inl y ↦ inl y | inr w ↦ inr (w.0, get_kept made k w.0 c w.1) ];
  }

  gone_none : (k : ℕ) → now k ≡ None → (s : Option SlotEntry) → old k ≡ s → old k ≡ None
  gone_none k n None q = q
  gone_none k n (Some x) q = let z : None ≡ Some x = sym n ∙ p.rest k x q in absurd (cc)

  pub IsPlaced-comes : (new : ℕ → Option SlotEntry) (k : ℕ) → now k ≡ None → ((c : ℕ) → c ≢ k → new c ≡ now c)
      → IsNewEntry (new k) (Some id) w depth (length made) marking
      → ((j : ℕ) → slice_get olds (length made) ≡ Some j → stay_of (old j) (Some w) ≡ false)
      → IsPlaced old new id depth marking olds news (made ++ k ∷ [])
  IsPlaced-comes new k vacant others e unfit =
      let fresh = gone_none k vacant (old k) refl in
      let apart = λ (c : ℕ) (x : SlotEntry) (t : now c ≡ Some x). let ne : c ≢ k = (λ q. let z : None ≡ Some x = sym vacant ∙ ap now (sym q) ∙ t in absurd (cc)) in ne in record {
        each = λ i c h. elim (get_more made k i c h) [
          | inl y ↦ (let r = p.each i c y in (
            r.0,
            r.1,
            elim r.2 [
              | inl o ↦ inl o
              | inr v ↦ inr (v.0, IsNewEntry-same (now c) (new c) (Some id) r.0 depth i marking (others c (apart c v.1.entry v.1.here)) v.1, v.2)
            ],
          ))
          | inr q ↦ (
            w,
            ap (slice_get news) q.0
                ∙ asked,
            inr (
              ap old q.1 ∙ fresh,
              subst (λ j. IsNewEntry (new c) (Some id) w depth j marking)
                  (sym q.0) (IsNewEntry-same (new k) (new c) (Some id) w depth (length made) marking (ap new q.1) e),
              λ j h. unfit j (ap (slice_get olds) (sym q.0) ∙ h),
            ),
          )
        ];
        rest = λ c x t. others c (apart c x (p.rest c x t)) ∙ p.rest c x t;
        created = λ c h. elim (nat_cases c k) [
          | inl q ↦ inr (length made, get_last made k ∙ ap (λ x. Some x) (sym q))
          | inr n ↦ elim (p.created c h) [ inl y ↦ inl (others c n ∙ y) | inr w ↦ inr (w.0, get_kept made k w.0 c w.1) ]
        ];
      }

-- what the test of a place tells
pub stay_some : (s : ℕ → Option SlotEntry) (o : Option ℕ) (w : Node) (k : ℕ) → stay_child s o w ≡ Some k
    → (o ≡ Some k) × (stay_of (s k) (Some w) ≡ true)
stay_some s None w k h = absurd (cc)
stay_some s (Some j) w k h = elim (bool_cases (stay_of (s j) (Some w))) [
  | inl y ↦ (let z : Some j ≡ Some k = ap (λ b. if b then Some j else None) (sym y) ∙ h in let q : j ≡ k = (cc) in (z, ap (λ x. stay_of (s x) (Some w)) (sym q) ∙ y))
  | inr n ↦ (let z : None ≡ Some k = ap (λ b. if b then Some j else None) (sym n) ∙ h in absurd (cc))
]

pub stay_none : (s : ℕ → Option SlotEntry) (o : Option ℕ) (w : Node) → stay_child s o w ≡ None → (k : ℕ) → o ≡ Some k
    → stay_of (s k) (Some w) ≡ false
stay_none s None w h k q = absurd (cc)
stay_none s (Some j) w h k q = elim (bool_cases (stay_of (s j) (Some w))) [
  | inl y ↦ (let z : Some j ≡ None = ap (λ b. if b then Some j else None) (sym y) ∙ h in absurd (cc))
  | inr n ↦ (let e : j ≡ k = (cc) in ap (λ x. stay_of (s x) (Some w)) (sym e) ∙ n)
]

pub some_kept : (old now : ℕ → Option SlotEntry) (id : ℕ) → ((e : SlotEntry) → old id ≡ Some e → now id ≡ Some e)
    → (s : Option SlotEntry) → old id ≡ s → IsSome s → now id ≡ old id
some_kept old now id h None q here = absurd (cc)
some_kept old now id h (Some e) q here = h e q ∙ sym q

pub same_kids : (old now : ℕ → Option SlotEntry) (id depth : ℕ) (marking : Bool) (olds : List ℕ) (news : List Node)
    (made : List ℕ)
    → IsPlaced old now id depth marking olds news made → IsSome (old id) → kids (now id) ≡ kids (old id)
same_kids old now id depth marking olds news made p here = ap kids (some_kept old now id (p.rest id) (old id) refl here)

-- an old child tests as it did before any came
pub same_stay : (old now : ℕ → Option SlotEntry) → ((c : ℕ) (e : SlotEntry) → old c ≡ Some e → now c ≡ Some e)
    → (k : ℕ) (w : Option Node) → IsSome (old k) → stay_of (old k) w ≡ stay_of (now k) w
same_stay old now rest k w here = ap (λ s. stay_of s w) (sym (some_kept old now k (rest k) (old k) refl here))

pub placed_start : (s : ℕ → Option SlotEntry) (id depth : ℕ) (marking : Bool) (olds : List ℕ) (news : List Node)
    → IsPlaced s s id depth marking olds news []
placed_start s id depth marking olds news = record { each = λ i c h. absurd (cc); rest = λ c e t. t; created = λ c h. inl h }

pub get_mid : (xs : List Node) (y : Node) (ys : List Node) → slice_get (xs ++ y ∷ ys) (length xs) ≡ Some y
get_mid [] y ys = refl
get_mid (x ∷ xs) y ys = get_mid xs y ys

pub nothing_left : (xs : List Node) → length xs ≡ 0 → xs ≡ []
nothing_left [] h = refl
nothing_left (x ∷ xs) h = absurd (omega arith)

pub placed_is : (old now : ℕ → Option SlotEntry) (id depth : ℕ) (marking : Bool) (olds : List ℕ) (news : List Node)
    (made : List ℕ)
    → [] ≡ made → IsPlaced old now id depth marking olds news [] → IsPlaced old now id depth marking olds news made
placed_is old now id depth marking olds news made q p = rw (← q) p
