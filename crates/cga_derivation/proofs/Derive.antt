-- `derive` in the words of its definition.
use Rattle.std.proofs.Common.{◌≡◌, ℕ, zero, suc, ◌+◌, ◌-◌, ◌<◌, ◌≤◌, List, [], ◌∷◌, ◌++◌, length, Bool, true}
use Rattle.std.proofs.Common.{false, not, ◌&&◌, cond, refl, sym, ap, ◌∙◌, subst, ◌⊎◌, inl, inr, Result, Ok, Err}
use Rattle.std.proofs.Common.{Option, Some, None, arith}
use Rattle.std.specs.Prelude.{slice_get, slice_set, nat_lt, MatchOption}
use Rattle.std.specs.Ordering.{is_lt}
use Rattle.std.specs.declared.cmp.Ordering.TheVariants.{Less, Equal}
use Rattle.std.proofs.lemmas.Bool.Decides.{nat_tests}
use Rattle.cga_order.specs.Rank.{rank_cmp}
use Rattle.cga_order.specs.declared.placed.Placed.{Placed}
use Rattle.cga_order.specs.declared.placed.Kind.{Kind}
use Rattle.cga_order.specs.declared.placed.Kind.TheVariants.{Waiting, Done, Faulted, Instance}
use Rattle.cga_order.specs.World.{Has, is_waiting}
use Rattle.cga_order.proofs.Door as ranks
use Rattle.cga_order.specs.Total.{rank_total}
use Rattle.cga_order.proofs.Door.{Has-index}
use Rattle.std.proofs.lemmas.Bool.{cases_Bool as either}
use Rattle.cga_derivation.specs.Derivation.{Derivation, IsDerivation, first_of, rank_of, is_next, next_of, told, outcome, asked, step_by, step, reached, derive, AllApart, NothingWaits}
use Rattle.cga_derivation.specs.Turns.{expanded_in}
use Rattle.cga_derivation.proofs.Along.{both, first_of-passes, first_of-Has}
use Rattle.cga_derivation.proofs.Least.{list_all-by, not_less, waiting_kind}
use Rattle.cga_derivation.proofs.Apart.{apart-reached}
use Rattle.cga_derivation.proofs.Budget.{reached-longer, settled-reached}
use Rattle.cga_derivation.proofs.Counts.{expanded-waiting, expanded-set, expanded-append, expanded-new, expanded-below}
use Rattle.cga_derivation.proofs.Keys.{become-set}

waits_or : {F P : Type 0} (k : Kind F P) → (k ≡ Waiting) ⊎ (k ≡ Waiting → ⊥)
waits_or Waiting = inl refl
waits_or Done = inr (λ e. cc)
waits_or (Faulted f) = inr (λ e. cc)
waits_or (Instance p) = inr (λ e. cc)

first_of-some : {N F P : Type 0} (p : Placed N F P → Bool) (xs : List (Placed N F P)) (n : N) (k : Kind F P)
    → Has xs n k → p (record { shape = n; kind = k }) ≡ true → (x : Placed N F P) × (first_of p xs ≡ Some x)
first_of-some p [] n k h t = absurd h
first_of-some p (y ∷ xs) n k h t = elim (either (p y)) [
  | inl here ↦ (y, ap (λ b. cond b (Some y) (first_of p xs)) here)
  | inr not_here ↦ elim h [
    | inl e ↦
        let same : p y ≡ true = (λ i. p (record { shape = e.0 i; kind = e.1 i })) ∙ t in
        let x : false ≡ true = sym not_here ∙ same in
        cc
    | inr r ↦ let w = first_of-some p xs n k r t in (w.0, ap (λ b. cond b (Some y) (first_of p xs)) not_here ∙ w.1)
  ]
]

module _ {N A F P : Type 0} (derivation : Derivation N A F P) where
  abbrev Members : Type 0
  Members = List (Placed N F P)

  abbrev Below : N → N → Type 0
  Below v m = rank_cmp derivation.mode (rank_of derivation v) (rank_of derivation m) ≡ Less

  abbrev Least : Members → Type 0
  Least xs = ((w : N) → Has xs w Waiting → ⊥) ⊎ ((m : N) × Has xs m Waiting × ((w : N) → Has xs w Waiting → Below w m → ⊥))

  not_below : (m v : N) → m ≡ v → Below v m → ⊥
  not_below m v e less = ranks.not_self (rank_cmp derivation.mode) (rank_total derivation.mode)
      (rank_of derivation m) (ap (λ x. rank_cmp derivation.mode (rank_of derivation x) (rank_of derivation m)) e ∙ less)

  least_with : (x : Placed N F P) (xs : Members) → (x.kind ≡ Waiting) ⊎ (x.kind ≡ Waiting → ⊥) → Least xs
      → Least (x ∷ xs)
  least_with x xs (inl w) (inl none) = inr (x.shape, inl (refl, w), λ v h less. elim h [ inl e ↦ not_below x.shape v e.0 less | inr r ↦ none v r ])
  least_with x xs (inl w) (inr m) = elim (ranks.split (rank_cmp derivation.mode) (rank_total derivation.mode) (rank_of derivation x.shape) (rank_of derivation m.0)) [
    | inl lt ↦ inr (x.shape, inl (refl, w), λ v h less. elim h [ inl e ↦ not_below x.shape v e.0 less | inr r ↦ m.2 v r ((rank_total derivation.mode).trans _ _ _ less lt) ])
    | inr ge ↦ inr (
      m.0,
      inr m.1,
      λ v h less. elim h [
        | inl e ↦
            let below : Below x.shape m.0 = ap (λ y. rank_cmp derivation.mode (rank_of derivation y) (rank_of derivation m.0)) e.0 ∙ less in
            elim ge [
              | inl tie ↦ let q : Less ≡ Equal = sym below ∙ tie in cc
              | inr gt ↦ ranks.not_both (rank_cmp derivation.mode) (rank_total derivation.mode) (rank_of derivation x.shape) (rank_of derivation m.0) below gt
            ]
        | inr r ↦ m.2 v r less
      ],
    )
  ]
  least_with x xs (inr nw) (inl none) = inl (λ v h. elim h [ inl e ↦ nw e.1 | inr r ↦ none v r ])
  least_with x xs (inr nw) (inr m) = inr (m.0, inr m.1, λ v h less. elim h [ inl e ↦ nw e.1 | inr r ↦ m.2 v r less ])

  least_of : (xs : Members) → Least xs
  least_of [] = inl (λ w h. h)
  least_of (x ∷ xs) = least_with x xs (waits_or x.kind) (least_of xs)

  -- where something waits there is a next member
  exists-next : (list : Members) (w : N) → Has list w Waiting → (m : Placed N F P) × (next_of derivation list ≡ Some m)
  exists-next list w h = elim (least_of list) [
    | inl none ↦ absurd (none w h)
    | inr m ↦ first_of-some (is_next derivation list) list m.0 Waiting m.1
        (list_all-by (λ x. not (is_waiting x.kind
        && is_lt (rank_cmp derivation.mode (rank_of derivation x.shape) (rank_of derivation m.0)))) list (λ n k g. at m.0 m.2 n k g))
  ]
    where
      at : (m : N) → ((v : N) → Has list v Waiting → Below v m → ⊥) → (n : N) (k : Kind F P) → Has list n k
          → not (is_waiting k && is_lt (rank_cmp derivation.mode (rank_of derivation n) (rank_of derivation m))) ≡ true
      at m least n Waiting g = not_less _ (λ less. least n g less)
      at m least n Done g = refl
      at m least n (Faulted f) g = refl
      at m least n (Instance p) g = refl

  module _ (laws : IsDerivation derivation) where
    count-told : (list : Members) → AllApart derivation list → (m : Placed N F P) → Has list m.shape m.kind
        → m.kind ≡ Waiting → (r : Result Members F) → derivation.expand m.shape (asked derivation list m.shape) ≡ r
        → expanded_in (told derivation list m.shape r) ≡ expanded_in list + 1
    count-told list apart m h w (Ok cs) e =
        let i = Has-index list m.shape m.kind h in
        let there : slice_get list i.0 ≡ Some m = i.2 ∙ (λ t. Some (record { shape = i.3 t; kind = i.4 t })) in
        ap (λ l. expanded_in (l ++ cs)) (become-set derivation list i.0 m Done apart there)
        ∙ (expanded-append (slice_set list i.0 (record { shape = m.shape; kind = Done })) cs
        ∙ ((λ t. expanded-set list i.0 m (record { shape = m.shape; kind = Done }) there w refl t +
        expanded-new derivation cs (λ j c g. (laws.child m.shape (asked derivation list m.shape) cs e j c g).2) t) ∙ omega arith))
    count-told list apart m h w (Err f) e =
        let i = Has-index list m.shape m.kind h in
        let there : slice_get list i.0 ≡ Some m = i.2 ∙ (λ t. Some (record { shape = i.3 t; kind = i.4 t })) in
        ap expanded_in (become-set derivation list i.0 m (Faulted f) apart there) ∙ expanded-set list i.0 m (record { shape = m.shape; kind = Faulted f }) there w refl

    -- while something waits, each step has expanded one member
    count-reached : (n : ℕ) (s : N) → Has (reached derivation n) s Waiting → expanded_in (reached derivation n) ≡ n
    unfolding reached step
    count-reached zero s h = expanded-waiting F P derivation.roots
    count-reached (suc n) s h = by (λ t g. count-reached n t g) (next_of derivation (reached derivation n)) refl h
      where
        by : ((t : N) → Has (reached derivation n) t Waiting → expanded_in (reached derivation n) ≡ n)
            → (o : Option (Placed N F P)) → next_of derivation (reached derivation n) ≡ o
            → Has (step_by derivation (reached derivation n) o) s Waiting
            → expanded_in (step_by derivation (reached derivation n) o) ≡ suc n
        by known None e g =
            let w = exists-next (reached derivation n) s g in
            let q : ◌≡◌ {A = Option (Placed N F P)} None (Some w.0) = sym e ∙ w.1 in
            cc
        by known (Some m) e g =
            let kind = waiting_kind m.kind (both _ _ (first_of-passes (is_next derivation (reached derivation n)) (reached derivation n) m e)).0 in
            let here = first_of-Has (is_next derivation (reached derivation n)) (reached derivation n) m e in
            let before = known m.shape (subst (Has (reached derivation n) m.shape) kind here) in
            count-told (reached derivation n) (apart-reached derivation laws n) m here kind (outcome derivation (reached derivation n) m.shape) refl ∙ (ap (λ k. k + 1) before ∙ omega arith)

    settled-by : (budget : ℕ) → length (reached derivation budget) ≤ budget
        → NothingWaits derivation (reached derivation budget)
    settled-by budget fits s h =
        let i = Has-index (reached derivation budget) s Waiting h in
        let below = expanded-below (reached derivation budget) i.0 i.1 i.2 i.4 in
        omega (arith, below, fits, count-reached budget s h)

    never-more : (budget : ℕ) → length (reached derivation budget) ≤ budget → (m : ℕ)
        → length (reached derivation m) ≤ budget
    never-more budget fits m = elim (either (nat_lt m budget)) [
      | inl t ↦
          let lt : m < budget = grind (arith, nat_tests) in
          let gap : (budget - m) + m ≡ budget = omega arith in
          let more : length (reached derivation m) ≤ length (reached derivation budget) = subst (λ j. length
          (reached derivation m) ≤ length (reached derivation j)) gap (reached-longer derivation m (budget - m)) in
          omega (arith, more, fits)
      | inr f ↦
          let ge : budget ≤ m = grind (arith, nat_tests) in
          let gap : (m - budget) + budget ≡ m = omega arith in
          let same : length (reached derivation m) ≡ length
          (reached derivation budget) = ap (λ j. length (reached derivation j)) (sym gap)
          ∙ ap length (settled-reached derivation budget (m - budget) (settled-by budget fits)) in
          omega (arith, same, fits)
    ]

    -- without a list some configuration is over the budget; with one none is, and it ends the run within so many steps
    pub says : (budget : ℕ)
        → MatchOption (derive derivation budget) ((n : ℕ) × (budget < length (reached derivation n)))
        (λ list. ((m : ℕ) → length (reached derivation m) ≤ budget)
        × ((n : ℕ) × (n ≤ budget) × (list ≡ reached derivation n) × ((s : N) → Has list s Waiting → ⊥)))
    unfolding derive
    says budget = elim (nat_lt budget (length (reached derivation budget))) as (λ b. nat_lt budget
        (length (reached derivation budget)) ≡ b → MatchOption (cond b None (Some (reached derivation budget)))
        ((n : ℕ) × (budget < length (reached derivation n)))
        (λ list. ((m : ℕ) → length (reached derivation m) ≤ budget)
        × ((n : ℕ) × (n ≤ budget) × (list ≡ reached derivation n) × ((s : N) → Has list s Waiting → ⊥)))) [
          | true ↦ λ e. (budget, over budget e)
          | false ↦ λ e. let fits = within budget e in (never-more budget fits, (budget, omega arith, refl, settled-by budget fits))
        ] refl
      where
        over : (k : ℕ) → nat_lt k (length (reached derivation k)) ≡ true → k < length (reached derivation k)
        over k e = grind (arith, nat_tests)

        within : (k : ℕ) → nat_lt k (length (reached derivation k)) ≡ false → length (reached derivation k) ≤ k
        within k e = grind (arith, nat_tests)
