-- A derivation is that of a run over ranked shapes.
use Rattle.std.proofs.Common.{◌≡◌, ℕ, zero, suc, ◌+◌, ◌⊎◌, List, [], ◌∷◌, ◌++◌, map, length, Bool, true, false, cond}
use Rattle.std.proofs.Common.{not, ◌&&◌, refl, sym, ap, ◌∙◌, subst, inl, inr, Result, Ok, Err, Option, Some, None}
use Rattle.std.proofs.Common.{length-append}
use Rattle.std.specs.Prelude.{slice_index}
use Rattle.std.specs.Ordering.{is_lt}
use Rattle.std.specs.declared.cmp.Ordering.TheVariants.{Less}
use Rattle.std.proofs.Math.Seq.{take-length, get_or-append_seam}
use Rattle.cga_order.specs.Rank.{rank_cmp}
use Rattle.cga_order.specs.Chain.{rank}
use Rattle.cga_order.specs.World.{World, IsWorld, Has, shapes_where, is_waiting}
use Rattle.cga_order.specs.declared.placed.Placed.{Placed}
use Rattle.cga_order.specs.declared.placed.Kind.{Kind}
use Rattle.cga_order.specs.declared.placed.Kind.TheVariants.{Waiting, Done, Faulted, Instance}
use Rattle.cga_order.specs.Run.{IsStep, Reached}
use Rattle.cga_agenda.proofs.Door.{AnsweredIn}
use Rattle.cga_derivation.proofs.Door.{first_of-Has, first_of-passes, fitted-same, length-fitted, list_all-at, map-map}
use Rattle.cga_fraction.proofs.Door.{map-append}
use Rattle.cga_order.proofs.Door.{Has-index, Has-start, slice_get-map, waits}
use Rattle.std.proofs.lemmas.Bool.{and_parts as both}
use Rattle.cga_rework.specs.Ranked.{Ranked, placed_as, placed, all_placed, chain_of, ranked_world, unranked}
use Rattle.cga_derivation.specs.Sites.{fitted}
use Rattle.cga_rework.proofs.Lists.{Among-map}
use Rattle.cga_derivation.specs.Derivation.{Derivation, IsDerivation, is_next, next_of, same_place, become, told, asked, outcome, start, rank_of, step_by, step, reached}
use Rattle.cga_rework.specs.Rules.{Shapes, Rules, derivation_of}
use Rattle.cga_rework.proofs.Worlds.{is_world, shape_of}
use Rattle.cga_order.specs.Run as run
use Rattle.cga_order.proofs.Door as steps

index-snoc : (xs : List ℕ) (x : ℕ) → slice_index (xs ++ x ∷ []) (length xs) ≡ x
index-snoc xs x = get_or-append_seam xs x [] 0

module _ {S F P : Type 0} where
  -- where a ranked shape is a member, its shape is one without the priorities on paths, of the same kind
  pub unranked-Has : (ms : List (Placed (Ranked S) F P)) (n : Ranked S) (k : Kind F P) → Has ms n k
      → Has (map unranked ms) n.shape k
  unranked-Has [] n k h = absurd h
  unranked-Has (m ∷ ms) n k h = elim h [ inl e ↦ inl (ap shape_of e.0, e.1) | inr r ↦ inr (unranked-Has ms n k r) ]

  -- each member without the priorities on paths is the shape of a ranked one, of the same kind
  pub Has-unranked : (ms : List (Placed (Ranked S) F P)) (s : S) (k : Kind F P) → Has (map unranked ms) s k
      → (n : Ranked S) × Has ms n k × (n.shape ≡ s)
  Has-unranked [] s k h = absurd h
  Has-unranked (m ∷ ms) s k h = elim h [ inl e ↦ (m.shape, inl (refl, e.1), e.0) | inr r ↦ let w = Has-unranked ms s k r in (w.0, inr w.1, w.2) ]

  -- what is asked is the same
  where-erased : (test : Kind F P → Bool) (ms : List (Placed (Ranked S) F P))
      → map shape_of (shapes_where (λ n k. test k) ms) ≡ shapes_where (λ n k. test k) (map unranked ms)
  where-erased test [] = refl
  where-erased test (m ∷ ms) = elim (test m.kind) as (λ b. map shape_of
      (cond b (m.shape ∷ shapes_where (λ n k. test k) ms) (shapes_where (λ n k. test k) ms)) ≡ cond b
      (m.shape.shape ∷ shapes_where (λ n k. test k) (map unranked ms)) (shapes_where (λ n k. test k) (map unranked ms))) [
        | true ↦ ap (λ xs. m.shape.shape ∷ xs) (where-erased test ms)
        | false ↦ where-erased test ms
      ]

  abbrev pub erased_result : Result (List (Placed (Ranked S) F P)) F → Result (List (Placed S F P)) F
  erased_result (Ok cs) = Ok (map unranked cs)
  erased_result (Err f) = Err f

  placed-erased : (priority : S → ℕ) (above : List ℕ) (s : S) (k : Kind F P)
      → unranked (placed_as priority above s k) ≡ record { shape = s; kind = k }
  placed-erased priority above s Waiting = refl
  placed-erased priority above s Done = refl
  placed-erased priority above s (Faulted f) = refl
  placed-erased priority above s (Instance p) = refl

  all-erased : (priority : S → ℕ) (above : List ℕ) (cs : List (Placed S F P))
      → map unranked (map (placed priority above) cs) ≡ cs
  all-erased priority above [] = refl
  all-erased priority above (c ∷ cs) = λ i. placed-erased priority above c.shape c.kind i ∷ all-erased priority above cs i

  result-erased : (priority : S → ℕ) (above : List ℕ) (r : Result (List (Placed S F P)) F)
      → erased_result (all_placed priority above r) ≡ r
  result-erased priority above (Ok cs) = ap Ok (all-erased priority above cs)
  result-erased priority above (Err f) = refl

module _ {N A F P : Type 0} (derivation : Derivation N A F P) where
  -- s got these answers in one of the first n steps
  abbrev pub AnsweredTo : ℕ → N → A → Type 0
  AnsweredTo zero s a = ⊥
  AnsweredTo (suc n) s a =
      ((m : Placed N F P) × (next_of derivation (reached derivation n) ≡ Some m) × (m.shape ≡ s) × (asked derivation (reached derivation n) s ≡ a))
      ⊎ AnsweredTo n s a

module _ {S A B F P : Type 0} (shapes : Shapes S) (rules : Rules S A B F P) (are : IsDerivation (derivation_of shapes rules)) where
  abbrev derivation : Derivation S A F P
  derivation = derivation_of shapes rules

  abbrev world : World (Ranked S) A F P
  world = ranked_world shapes rules

  laws : IsWorld world
  laws = is_world shapes rules are

  abbrev Sited : Type 0
  Sited = List (Placed (Ranked S) F P)

  outcome-erased : (C : Sited) (n : Ranked S)
      → erased_result (run.outcome world C n) ≡ outcome derivation (map unranked C) n.shape
  outcome-erased C n =
      result-erased rules.priority (chain_of shapes n).priorities _
      ∙ (λ i. rules.expand n.shape (rules.answers n.shape (where-erased (λ k. true) C i) (where-erased (λ k. is_waiting k) C i)))

  become-erased : (n : Ranked S) (k : Kind F P) (m : Placed (Ranked S) F P)
      → unranked (run.become world n k m) ≡ become derivation n.shape k (unranked m)
  become-erased n k m = elim (same_place derivation m.shape.shape n.shape) as (λ b. unranked
      (cond b (record { shape = m.shape; kind = k }) m) ≡ cond b (record { shape = m.shape.shape; kind = k }) (unranked m)) [ true ↦ refl | false ↦ refl ]

  all-become : (n : Ranked S) (k : Kind F P) (C : Sited)
      → map unranked (map (run.become world n k) C) ≡ map (become derivation n.shape k) (map unranked C)
  all-become n k [] = refl
  all-become n k (m ∷ C) = λ i. become-erased n k m i ∷ all-become n k C i

  told-erased : (C : Sited) (n : Ranked S) (r : Result Sited F)
      → map unranked (run.told world C n r) ≡ told derivation (map unranked C) n.shape (erased_result r)
  told-erased C n (Ok cs) = map-append unranked (map (run.become world n Done) C) cs ∙ ap (λ xs. xs ++ map unranked cs) (all-become n Done C)
  told-erased C n (Err f) = all-become n (Faulted f) C

  -- a ranked shape that waits has the rank of its shape
  abbrev RanksRight : Sited → Type 0
  RanksRight C = (n : Ranked S) → Has C n Waiting → rank (chain_of shapes n) ≡ rank_of derivation n.shape

  rank_is : (n : Ranked S) (above : List ℕ) → n.priorities ≡ above ++ rules.priority n.shape ∷ []
      → length above ≡ length (shapes.path n.shape) → rank (chain_of shapes n) ≡ rank_of derivation n.shape
  rank_is n above e size =
      let longer : length n.priorities ≡ length (shapes.path n.shape) + 1 = ap length e ∙ length-append above (rules.priority n.shape ∷ []) ∙ ap (λ x. x + 1) size in
      let priority : slice_index (fitted (length (shapes.path n.shape) + 1) n.priorities) (length (shapes.path n.shape)) ≡ rules.priority n.shape =
      ap (λ ps. slice_index ps (length (shapes.path n.shape))) (fitted-same (length (shapes.path n.shape) + 1) n.priorities longer ∙ e)
      ∙ ap (λ x. slice_index (above ++ rules.priority n.shape ∷ []) x) (sym size)
      ∙ index-snoc above (rules.priority n.shape) in
      λ i. record { priority = priority i; lot = shapes.lot n.shape; path = take-length (shapes.path n.shape) i }

  ranks-start : RanksRight (run.start world)
  ranks-start n h =
      let w = Among-map (λ s. let m : Ranked S = record { shape = s; priorities = rules.priority s ∷ [] } in m) rules.roots n (Has-start world world.roots n Waiting h).0 in
      let path = are.root w.0 w.1 in
      subst (λ x. rank (chain_of shapes x) ≡ rank_of derivation x.shape) w.2 (rank_is (record { shape = w.0; priorities = rules.priority w.0 ∷ [] }) [] refl (sym (ap length path)))

  -- a child that waits has its own priority last
  rank-child : (s : Ranked S) (a : A) (r : Result (List (Placed S F P)) F) → rules.expand s.shape a ≡ r → (n : Ranked S)
      → Has (steps.children_of world (all_placed rules.priority (chain_of shapes s).priorities r)) n Waiting
      → rank (chain_of shapes n) ≡ rank_of derivation n.shape
  rank-child s a (Err f) e n h = absurd h
  rank-child s a (Ok es) e n h =
      let f = placed {F = F} {P = P} rules.priority (chain_of shapes s).priorities in
      let w = Has-index (map f es) n Waiting h in
      let g = slice_get-map f es w.0 w.1 w.2 in
      let law = are.child s.shape a es e w.0 g.0 g.1 in
      by g.0.shape g.0.kind w.0 law.1 (ap (λ m. m.shape) g.2 ∙ w.3) (ap (λ m. m.kind) g.2 ∙ w.4)
    where
      by : (t : S) (kind : Kind F P) (i : ℕ) → shapes.path t ≡ shapes.path s.shape ++ i ∷ []
          → let m : Placed (Ranked S) F P = placed_as rules.priority (chain_of shapes s).priorities t kind in m.shape ≡
          n
          → m.kind ≡ Waiting → rank (chain_of shapes n) ≡ rank_of derivation n.shape
      by t Waiting i path is k =
          let above = (chain_of shapes s).priorities in
          let size : length above ≡ length (shapes.path t) = length-fitted (length (shapes.path s.shape) + 1) s.priorities ∙ sym (ap length path ∙ length-append (shapes.path s.shape) (i ∷ [])) in
          subst (λ x. rank (chain_of shapes x) ≡ rank_of derivation x.shape) is (rank_is (record { shape = t; priorities = above ++ rules.priority t ∷ [] }) above refl size)
      by t Done i path is k = let x : Done ≡ Waiting = k in cc
      by t (Faulted f) i path is k = let x : Faulted f ≡ Waiting = k in cc
      by t (Instance p) i path is k = let x : Instance p ≡ Waiting = k in cc

  ranks-next : (C D : Sited) (s : Ranked S) → steps.IsOrdered world C → IsStep world C D s → RanksRight C → RanksRight D
  ranks-next C D s good step ranks n h = elim ((steps.Changes-step world laws C D s good step).from n Waiting h) [
    | inl x ↦ ranks n x.1
    | inr x ↦ elim x [
      | inl e ↦ absurd (steps.not_waiting world _ (steps.expanded_after world (run.outcome world C s)) (sym e.1))
      | inr c ↦ rank-child s _ (rules.expand s.shape _) refl n c
    ]
  ]

  ranks-reached : (taken : List (Ranked S)) (C : Sited) → Reached world taken C → RanksRight C
  ranks-reached [] C e = subst RanksRight (sym e) ranks-start
  ranks-reached (s ∷ taken) D (C, reached, step) = ranks-next C D s (steps.in_order world laws taken C reached) step (ranks-reached taken C reached)

  start-erased : map unranked (run.start world) ≡ start derivation
  start-erased = map-map unranked (λ n. record { shape = n; kind = Waiting }) world.roots
      ∙ map-map (λ n. record { shape = n.shape; kind = Waiting }) (λ s. record { shape = s; priorities = rules.priority s ∷ [] }) rules.roots

  -- so many steps are those of a run over ranked shapes, in which the same answers were got
  abbrev pub RankedRun : ℕ → Type 0
  RankedRun n =
      (all_ranked : List (Ranked S)) × (C : Sited) × (run : Reached world all_ranked C) × (map unranked C ≡ reached derivation n)
      × ((m : Ranked S) (a : A) → AnsweredIn world all_ranked C run m a → AnsweredTo derivation n m.shape a)
      × ((s : S) (a : A) → AnsweredTo derivation n s a → (m : Ranked S) × (m.shape ≡ s) × AnsweredIn world all_ranked C run m a)

  ranked_next : (n : ℕ) (o : Option (Placed S F P)) → next_of derivation (reached derivation n) ≡ o → RankedRun n
      → RankedRun (suc n)
  unfolding reached step
  ranked_next n None e w = (
    w.0,
    w.1,
    w.2,
    w.3 ∙ sym (ap (step_by derivation (reached derivation n)) e),
    (λ m a h. inr (w.4 m a h)),
    λ s a h. elim h [
      | inl f ↦ let x : ◌≡◌ {A = Option (Placed S F P)} None (Some f.0) = sym e ∙ f.1 in cc
      | inr r ↦ w.5 s a r
    ],
  )
  ranked_next n (Some t) e w =
      let C = w.1 in
      let ranks = ranks-reached w.0 C w.2 in
      let passes = both _ _ (first_of-passes (is_next derivation (reached derivation n)) (reached derivation n) t e) in
      let here = waits (reached derivation n) t.shape t.kind (first_of-Has (is_next derivation (reached derivation n)) (reached derivation n) t e) passes.0 in
      let s = Has-unranked C t.shape Waiting (subst (λ x. Has x t.shape Waiting) (sym w.3) here) in
      let r = run.outcome world C s.0 in
      let same : map unranked (run.told world C s.0 r) ≡ told derivation (reached derivation n) t.shape (outcome derivation (reached derivation n) t.shape) =
      told-erased C s.0 r ∙ ap (told derivation (map unranked C) s.0.shape) (outcome-erased C s.0)
      ∙ (λ i. told derivation (w.3 i) (s.2 i) (outcome derivation (w.3 i) (s.2 i))) in
      let got : world.answers s.0 (shapes_where (λ m k. true) C) (shapes_where (λ m k. is_waiting k) C) ≡ asked derivation (reached derivation n) t.shape =
      (λ i. rules.answers s.0.shape (where-erased (λ k. true) C i) (where-erased (λ k. is_waiting k) C i))
      ∙ (λ i. asked derivation (w.3 i) (s.2 i)) in (
        s.0 ∷ w.0,
        run.told world C s.0 r,
        (
          C,
          w.2,
          record {
            waits = s.1;
            least = λ x h less.
                let there = subst (λ y. Has y x.shape Waiting) w.3 (unranked-Has C x Waiting h) in
                let all = list_all-at (λ z. not (is_waiting z.kind
                && is_lt (rank_cmp shapes.mode (rank_of derivation z.shape) (rank_of derivation t.shape))))
                (reached derivation n) x.shape Waiting passes.1 there in
                let lt : rank_cmp shapes.mode (rank_of derivation x.shape) (rank_of derivation t.shape) ≡ Less =
                ap (λ y. rank_cmp shapes.mode y (rank_of derivation t.shape)) (sym (ranks x h))
                ∙ (ap (rank_cmp shapes.mode (rank (chain_of shapes x))) (sym (ranks s.0 s.1 ∙ ap (rank_of derivation) s.2)) ∙ less) in
                let f : not (is_lt Less) ≡ true = ap (λ o. not (is_lt o)) (sym lt) ∙ all in
                let x : false ≡ true = f in
                cc;
            told = refl;
          },
        ),
        same ∙ sym (ap (step_by derivation (reached derivation n)) e),
        (λ m a h. elim h [
          | inl f ↦ inl (t, e, sym s.2 ∙ ap shape_of f.0, ap (asked derivation (reached derivation n)) (sym (sym s.2 ∙ ap shape_of f.0)) ∙ (sym got ∙ f.1))
          | inr x ↦ inr (w.4 m a x)
        ]),
        λ q a h. elim h [
          | inl f ↦
              let one : Some t ≡ Some f.0 = sym e ∙ f.1 in
              let is : t ≡ f.0 = cc in
              let shape : t.shape ≡ q = ap (λ z. z.shape) is ∙ f.2 in
              (s.0, s.2 ∙ shape, inl (refl, got ∙ (ap (asked derivation (reached derivation n)) shape ∙ f.3)))
          | inr x ↦ let u = w.5 q a x in (u.0, u.1, inr u.2)
        ],
      )

  ranked_start : RankedRun 0
  unfolding reached
  ranked_start = ([], run.start world, refl, start-erased, (λ m a h. h), λ s a h. absurd h)

  pub ranked_run : (n : ℕ) → RankedRun n
  ranked_run zero = ranked_start
  ranked_run (suc n) = ranked_next n (next_of derivation (reached derivation n)) refl (ranked_run n)
