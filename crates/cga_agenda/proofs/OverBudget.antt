-- Where an edit is refused for the budget.
use Rattle.std.proofs.Common.{◌≡◌, ℕ, zero, suc, ◌+◌, ◌≤◌, ◌<◌, List, [], ◌∷◌, length, Bool, true, false, refl, sym, ap, ◌∙◌, subst, ◌⊎◌, inl, inr, None, arith}
use Rattle.std.specs.declared.cmp.Ordering.TheVariants.{Less}
use Rattle.std.specs.Ordering.{is_lt}
use Rattle.std.specs.Cmp.{IsTotalOrder}
use Rattle.cga_order.specs.Rank.{rank_cmp}
use Rattle.cga_order.specs.Chain.{rank}
use Rattle.cga_order.specs.World.{World, IsWorld, Has, is_waiting}
use Rattle.cga_order.specs.declared.placed.Placed.{Placed}
use Rattle.cga_order.specs.declared.placed.Kind.{Kind}
use Rattle.cga_order.specs.declared.placed.Kind.TheVariants.{Waiting}
use Rattle.cga_order.specs.Run.{outcome, told, start, IsStep, Reached}
use Rattle.cga_order.specs.Consistent.{NothingWaits}
use Rattle.cga_order.specs.Agenda.{Node, members_of, Keeps}
use Rattle.cga_order.specs.Total.{rank_total}
use Rattle.cga_order.proofs.Door.{all_before, has_members, length-once, length-taken, right_consistent, waits}
use Rattle.std.proofs.lemmas.Bool.{cases_Bool as either}
use Rattle.cga_order.proofs.Door as stamps
use Rattle.cga_agenda.specs.Edit.{Edit, IsEdit, new_world}
use Rattle.cga_order.specs.Once.{Once}
use Rattle.cga_agenda.specs.Work.{IsWorking, IsStart}
use Rattle.cga_agenda.specs.Known.{shapes_of, IsOverBudget, IsKnown}
use Rattle.cga_agenda.proofs.Lists.{Has-Among, Among-Has}
use Rattle.cga_agenda.proofs.Made.{length-map, once-reached}
use Rattle.cga_agenda.proofs.Budget.{known_derived, turned_derived, all_derived}
use Rattle.cga_fraction.proofs.Door.{Less_from_is_lt}

module _ {N A F P : Type 0} (world : World N A F P) (laws : IsWorld world) where
  abbrev Members : Type 0
  Members = List (Placed N F P)

  order : IsTotalOrder (rank_cmp world.mode)
  order = rank_total world.mode

  abbrev below : N → N → Bool
  below x s = is_lt (rank_cmp world.mode (rank (world.chain x)) (rank (world.chain s)))

  abbrev Below : N → N → Type 0
  Below x s = below x s ≡ true

  -- of the members that wait one has the least rank, if any waits
  least_waiting : (ms : Members)
      → ((x : N) → Has ms x Waiting → ⊥)
      ⊎ ((s : N) × Has ms s Waiting × ((x : N) → Has ms x Waiting → below x s ≡ false))
  least_waiting [] = inl (λ x h. h)
  least_waiting (m ∷ ms) = elim (either (is_waiting m.kind)) [
    | inl on ↦
        let first : Has (m ∷ ms) m.shape Waiting = waits (m ∷ ms) m.shape m.kind (inl (refl, refl)) on in
        elim (least_waiting ms) [
          | inl none ↦ inr (
            m.shape,
            first,
            λ x h. elim h [
              | inl is ↦ subst (λ y. below y m.shape ≡ false) is.0 (self m.shape)
              | inr r ↦ absurd (none x r)
            ],
          )
          | inr (s, there, least) ↦ elim (either (below m.shape s)) [
            | inl less ↦ inr (
              m.shape,
              first,
              λ x h. elim h [
                | inl is ↦ subst (λ y. below y m.shape ≡ false) is.0 (self m.shape)
                | inr r ↦ keep x m.shape s less (least x r)
              ],
            )
            | inr not_less ↦ inr (s, inr there, λ x h. elim h [ inl is ↦ subst (λ y. below y s ≡ false) is.0 not_less | inr r ↦ least x r ])
          ]
        ]
    | inr off ↦
        let apart : (x : N) → Has (m ∷ ms) x Waiting → Has ms x Waiting = λ x h. elim h [ inl is ↦ (let y : true ≡ false = sym (ap is_waiting is.1) ∙ off in cc) | inr r ↦ r ] in
        elim (least_waiting ms) [
          | inl none ↦ inl (λ x h. none x (apart x h))
          | inr (s, there, least) ↦ inr (s, inr there, λ x h. least x (apart x h))
        ]
  ]
    where
      is : (x y : N) → Below x y → rank_cmp world.mode (rank (world.chain x)) (rank (world.chain y)) ≡ Less
      is x y e = Less_from_is_lt _ e

      self : (x : N) → below x x ≡ false
      self x = elim (either (below x x)) [ inl e ↦ absurd (stamps.not_self (rank_cmp world.mode) order (rank (world.chain x)) (is x x e)) | inr e ↦ e ]

      keep : (x m s : N) → Below m s → below x s ≡ false → below x m ≡ false
      keep x m s less not_less = elim (either (below x m)) [
        | inl e ↦ let y : true ≡ false = sym (ap is_lt (order.trans _ _ _ (is x m e) (is m s less))) ∙ not_less in cc
        | inr e ↦ e
      ]

  -- a configuration is the last, or there is a step
  goes_on : (C : Members)
      → NothingWaits world None C ⊎ ((s : N) × IsStep world C (told world C s (outcome world C s)) s)
  goes_on C = elim (least_waiting C) [
    | inl none ↦ inl (λ x h b. none x h)
    | inr (s, there, least) ↦ inr (s, record { waits = there; least = λ x h e. let y : true ≡ false = sym (ap is_lt e) ∙ least x h in cc; told = refl })
  ]

  -- so many steps, or all of them
  run_of : (n : ℕ)
      → (taken : List N) × (C : Members) × Reached world taken C × ((length taken ≡ n) ⊎ NothingWaits world None C)
  run_of zero = ([], start world, refl, inl refl)
  run_of (suc n) =
      let r = run_of n in
      elim r.3 [
        | inr quiet ↦ (r.0, r.1, r.2, inr quiet)
        | inl e ↦ elim (goes_on r.1) [
          | inl quiet ↦ (r.0, r.1, r.2, inr quiet)
          | inr (s, step) ↦ (s ∷ r.0, told world r.1 s (outcome world r.1 s), (r.1, r.2, step), inl (omega (arith, e)))
        ]
      ]

  -- what is no more than the members of each whole run is no more than those of some run
  pub over : (budget size : ℕ) → budget < size
      → ((taken : List N) (C : Members) → Reached world taken C → NothingWaits world None C → size ≤ length C)
      → IsOverBudget world budget
  over budget size lt within =
      let r = run_of (budget + 1) in (
        r.0,
        r.1,
        r.2,
        elim r.3 [
          | inl e ↦ omega (arith, e, length-taken world laws r.0 r.1 r.2)
          | inr quiet ↦ omega (arith, lt, within r.0 r.1 r.2 quiet)
        ],
      )

module _ {N A B F P : Type 0} (edit : Edit N A B F P) (laws : IsEdit edit) (start : List (Node N A F P))
    (started : IsStart edit start) (now : List (Node N A F P)) (queued : N → Bool) (turned worked : List N)
    (good : IsWorking edit start now queued turned worked) where
  abbrev w : World N A F P
  w = new_world edit

  pub early : (known : List N) → IsKnown edit now worked known → (budget : ℕ)
      → (budget < length known) ⊎ (budget < length turned) → IsOverBudget w budget
  early known knows budget more = elim more [
    | inl lt ↦ over w laws.new budget (length known) lt (λ taken C run quiet. known_derived edit laws start started now queued turned worked good taken C run quiet known knows)
    | inr lt ↦ over w laws.new budget (length turned) lt (λ taken C run quiet. turned_derived edit laws start started now queued turned worked good taken C run quiet)
  ]

  module _ (empty : (n : N) (k : Kind F P) (a : A) → Keeps now n k a → queued n ≡ false) (roots : Once edit.new.roots) (once : Once (shapes_of (members_of now))) where
    within : (taken : List N) (C : List (Placed N F P)) → Reached w taken C → length C ≤ length now
    within taken C run =
        let con = right_consistent w laws.new now queued None good.tree good.right (λ n k a h q b. let x : true ≡ false = sym q ∙ empty n k a h in cc) in
        let has = has_members w laws.new None (members_of now) con taken C run (all_before w taken) in
        let bound = length-once (shapes_of C) (shapes_of (members_of now)) (once-reached w laws.new taken C run roots) (λ m i.
        let g = Among-Has C m i in
        let h = has m g.0 g.1 in
        Has-Among (members_of now) m h.0 h.1) in
        omega (arith, bound, length-map (λ m. m.shape) C, length-map (λ m. m.shape) (members_of now), nodes)
      where
        nodes : length (members_of now) ≡ length now
        nodes = length-map (λ m. record { shape = m.shape; kind = m.kind }) now

    -- where nothing is queued and roots and nodes stand once, a configuration is over a budget just where the nodes are
    pub late : (budget : ℕ)
        → (IsOverBudget w budget → budget < length now) × (budget < length now → IsOverBudget w budget)
    late budget = (
      (λ o. omega (arith, o.3, within o.0 o.1 o.2)),
      (λ lt. over w laws.new budget (length now) lt (λ taken C run quiet.
          let all = all_derived edit laws start started now queued turned worked good taken C run quiet empty roots once in
          omega (arith, all.1))),
    )
