-- The waiting member of least stamp is the next one.
use Rattle.std.proofs.Common.{◌≡◌, List, [], ◌∷◌, Bool, true, false, not, ◌&&◌, cond, refl, sym, ap, ◌∙◌, subst, ◌⊎◌, inl, inr, Some}
use Rattle.std.specs.List.{list_all}
use Rattle.std.specs.Ordering.{is_lt}
use Rattle.std.specs.declared.cmp.Ordering.{Ordering}
use Rattle.std.specs.declared.cmp.Ordering.TheVariants.{Less, Equal, Greater}
use Rattle.std.proofs.lemmas.Cmp.{tied_itself}
use Rattle.cga_order.specs.Rank.{rank_cmp}
use Rattle.cga_order.specs.Chain.{rank}
use Rattle.cga_order.specs.declared.placed.Placed.{Placed}
use Rattle.cga_order.specs.declared.placed.Kind.{Kind}
use Rattle.cga_order.specs.declared.placed.Kind.TheVariants.{Waiting, Done, Faulted, Instance}
use Rattle.cga_order.specs.World.{World, Has, is_waiting, IsEarlier, stamp_of}
use Rattle.cga_order.specs.Total.{rank_total}
use Rattle.cga_order.proofs.Door.{rank-before}
use Rattle.std.proofs.lemmas.Bool.{cases_Bool as either}
use Rattle.cga_order.proofs.Door as steps
use Rattle.cga_derivation.specs.Derivation.{Derivation, rank_of, is_next, first_of}
use Rattle.cga_derivation.specs.Sites.{Site, erased, erase, chain_of, world_of, next_site}
use Rattle.cga_derivation.proofs.Sites.{rank-site}
use Rattle.cga_derivation.proofs.Along.{both, list_all-at, Has-erase}
pub use Rattle.std.proofs.lemmas.Bool.{and_from as both_make}

-- where the test for waiting passes, the kind is that of what waits
pub waiting_kind : {F P : Type 0} (k : Kind F P) → is_waiting k ≡ true → k ≡ Waiting
waiting_kind Waiting e = refl
waiting_kind Done e = let x : false ≡ true = e in cc
waiting_kind (Faulted f) e = let x : false ≡ true = e in cc
waiting_kind (Instance p) e = let x : false ≡ true = e in cc

-- a test that holds of each member holds of all
pub list_all-by : {N F P : Type 0} (p : Placed N F P → Bool) (xs : List (Placed N F P))
    → ((n : N) (k : Kind F P) → Has xs n k → p (record { shape = n; kind = k }) ≡ true) → list_all p xs ≡ true
list_all-by p [] h = refl
list_all-by p (x ∷ xs) h = both_make _ _ (h x.shape x.kind (inl (refl, refl))) (list_all-by p xs (λ n k g. h n k (inr g)))

-- where one member passes, and only it, it is the first that passes
pub first_of-only : {N F P : Type 0} (p : Placed N F P → Bool) (xs : List (Placed N F P)) (m : Placed N F P)
    → Has xs m.shape m.kind → p m ≡ true
    → ((n : N) (k : Kind F P) → Has xs n k → p (record { shape = n; kind = k }) ≡ true → (n ≡ m.shape) × (k ≡ m.kind))
    → first_of p xs ≡ Some m
first_of-only p [] m h e only = absurd h
first_of-only p (x ∷ xs) m h e only = elim (either (p x)) [
  | inl t ↦
      let is = only x.shape x.kind (inl (refl, refl)) t in
      ap (λ b. cond b (Some x) (first_of p xs)) t ∙ (λ i. Some (record { shape = is.0 i; kind = is.1 i }))
  | inr f ↦ elim h [
    | inl q ↦
        let here : p x ≡ p m = λ i. p (record { shape = q.0 i; kind = q.1 i }) in
        let x : false ≡ true = sym f ∙ (here ∙ e) in
        cc
    | inr r ↦ ap (λ b. cond b (Some x) (first_of p xs)) f ∙ first_of-only p xs m r e (λ n k g. only n k (inr g))
  ]
]

module _ {N F P : Type 0} where
  -- each member of an erased list is the shape of a site of the list, of the same kind
  pub Has-erased : (xs : List (Placed (Site N) F P)) (n : N) (k : Kind F P) → Has (erase xs) n k
      → (s : Site N) × Has xs s k × (s.shape ≡ n)
  Has-erased [] n k h = absurd h
  Has-erased (x ∷ xs) n k h = elim h [
    | inl e ↦ (x.shape, inl (refl, e.1), e.0)
    | inr r ↦ let w = Has-erased xs n k r in (w.0, inr w.1, w.2)
  ]

pub not_less : (o : Ordering) → (o ≡ Less → ⊥) → not (is_lt o) ≡ true
not_less Less h = absurd (h refl)
not_less Equal h = refl
not_less Greater h = refl

module _ {N A F P : Type 0} (derivation : Derivation N A F P) where
  abbrev Members : Type 0
  Members = List (Placed (Site N) F P)

  abbrev world : World (Site N) A F P
  world = world_of derivation

  module _ (C : Members) (good : steps.IsOrdered world C) (m : Placed (Site N) F P) (was : Has C m.shape Waiting)
      (least : (w : Site N) → Has C w Waiting → steps.SamePlace world w m.shape ⊎ IsEarlier world (stamp_of world m.shape) (stamp_of world w)) where
    -- no member that waits has a smaller rank
    none_less : (w : Site N) → Has C w Waiting
        → rank_cmp derivation.mode (rank (chain_of derivation w)) (rank (chain_of derivation m.shape)) ≡ Less → ⊥
    none_less w h less = elim (least w h) [
      | inl same ↦
          let is : w ≡ m.shape = (good.distinct w m.shape Waiting Waiting h was same).0 in
          let tie : rank_cmp derivation.mode (rank (chain_of derivation w)) (rank (chain_of derivation m.shape))
          ≡ Equal = ap (λ x. rank_cmp derivation.mode (rank (chain_of derivation w))
          (rank (chain_of derivation x))) (sym is) ∙ tied_itself (rank_total derivation.mode) (rank (chain_of derivation w)) in
          let x : Less ≡ Equal = sym less ∙ tie in
          cc
      | inr before ↦
          let up = rank-before derivation.mode (chain_of derivation m.shape) (chain_of derivation w) (good.born w m.shape Waiting h was) before in
          let tie : rank_cmp derivation.mode (rank (chain_of derivation m.shape)) (rank (chain_of derivation m.shape)) ≡ Less = (rank_total derivation.mode).trans _ _ _ up less in
          let x : Less ≡ Equal = sym tie ∙ tied_itself (rank_total derivation.mode) (rank (chain_of derivation m.shape)) in
          cc
    ]

    passes : is_waiting m.kind ≡ true → is_next derivation (erase C) (erased m) ≡ true
    passes waiting =
        both_make _ _ waiting (list_all-by
        (λ x. not (is_waiting x.kind && is_lt (rank_cmp derivation.mode (rank_of derivation x.shape)
        (rank_of derivation m.shape.shape)))) (erase C) (λ n k h. at n k h))
      where
        at : (n : N) (k : Kind F P) → Has (erase C) n k
            → not (is_waiting k && is_lt
            (rank_cmp derivation.mode (rank_of derivation n) (rank_of derivation m.shape.shape))) ≡ true
        at n Waiting h =
            let w = Has-erased C n Waiting h in
            not_less _ (λ less. none_less w.0 w.1 ((λ i. rank_cmp derivation.mode ((rank-site derivation w.0 ∙ ap (rank_of derivation) w.2) i) (rank-site derivation m.shape i)) ∙ less))
        at n Done h = refl
        at n (Faulted f) h = refl
        at n (Instance p) h = refl

    only : (s : Site N) (k : Kind F P) → Has C s k
        → is_next derivation (erase C) (record { shape = s.shape; kind = k }) ≡ true → m.kind ≡ Waiting
        → (s ≡ m.shape) × (k ≡ m.kind)
    only s k h e kind =
        let parts = both _ _ e in
        let waiting = waiting_kind k parts.0 in
        let hw : Has C s Waiting = subst (Has C s) waiting h in
        let t = list_all-at (λ x. not (is_waiting x.kind
        && is_lt (rank_cmp derivation.mode (rank_of derivation x.shape) (rank_of derivation s.shape))))
        (erase C) m.shape.shape Waiting parts.1 (Has-erase C m.shape Waiting was) in
        elim (least s hw) [
          | inl same ↦ ((good.distinct s m.shape Waiting Waiting hw was same).0, waiting ∙ sym kind)
          | inr before ↦
              let up = rank-before derivation.mode (chain_of derivation m.shape) (chain_of derivation s) (good.born s m.shape Waiting hw was) before in
              let less : rank_cmp derivation.mode (rank_of derivation m.shape.shape) (rank_of derivation s.shape)
              ≡ Less = (λ i. rank_cmp derivation.mode (sym (rank-site derivation m.shape) i) (sym (rank-site derivation s) i)) ∙ up in
              let x : false ≡ true = ap (λ o. not (is_lt o)) (sym less) ∙ t in
              cc
        ]

    pub next-is : m.kind ≡ Waiting → next_site derivation C ≡ Some m
    next-is kind =
        first_of-only (λ x. is_next derivation (erase C) (erased x)) C m (subst (Has C m.shape) (sym kind) was) (passes (ap is_waiting kind)) (λ s k h e. only s k h e kind)
