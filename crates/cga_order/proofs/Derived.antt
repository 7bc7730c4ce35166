-- What a derivation gives is a consistent list: what a shape sees at its stamp was made before it.
use Rattle.std.proofs.Common.{◌≡◌, List, [], ◌∷◌, true, false, refl, sym, ap, ◌∙◌, subst, ◌⊎◌, inl, inr, ◌&&◌, Result, Ok, Err, None}
use Rattle.std.specs.Prelude.{not}
use Rattle.std.specs.Ordering.{is_lt}
use Rattle.std.specs.Cmp.{IsTotalOrder}
use Rattle.cga_order.specs.Rank.{Rank}
use Rattle.cga_order.specs.Stamp.{stamps_cmp}
use Rattle.cga_order.specs.World.{World, IsWorld, Placed, Kind, Waiting, Done, Faulted, Instance, Has, Among, shapes_where, is_waiting, is_instance, stamp_of, birth_of, IsEarlier, SameSeen}
use Rattle.cga_order.specs.Run.{outcome, start, IsStep, Reached}
use Rattle.cga_order.specs.Consistent.{exists_at, waits_at, outcome_at, Stands, HasOutcome, IsMade, IsConsistent, NothingWaits}
use Rattle.cga_order.specs.Laws.{SeesWhatWasMade}
use Rattle.cga_order.specs.Total.{stamps_total}
use Rattle.cga_order.proofs.Members.{waits, place_dec, Has-start, start-Has, Among-shapes_where, Has-from_shapes_where}
use Rattle.cga_order.proofs.Steps as steps
use Rattle.cga_order.proofs.Maxima as stamps
use Rattle.cga_fraction.proofs.Door.{Less_from_is_lt, false_from_not}
use Rattle.std.proofs.lemmas.Bool.{and_parts}

module _ {N A F P : Type 0} (world : World N A F P) (laws : IsWorld world) where
  abbrev Members : Type 0
  Members = List (Placed N F P)

  order : IsTotalOrder (stamps_cmp world.mode)
  order = stamps_total world.mode

  is_earlier : (a b : List Rank) → is_lt (stamps_cmp world.mode a b) ≡ true → IsEarlier world a b
  is_earlier a b e = Less_from_is_lt _ e

  not_self : (a : List Rank) → IsEarlier world a a → ⊥
  not_self a e = stamps.not_self (stamps_cmp world.mode) order a e

  -- what is expanded has its outcome over the configuration, and each member is a root or was made
  pub record IsSettled (C : Members) : Type 0 where
    pub each : (n : N) (k : Kind F P) → Has C n k → steps.IsExpanded world k → HasOutcome C k (outcome_at world C n)
    pub only : (n : N) (k : Kind F P) → Has C n k → Among n world.roots ⊎ IsMade world C n
    pub roots : (n : N) → Among n world.roots → Stands C n Waiting

  -- the parts of waiting at a stamp
  pub waits_at-parts : (q n : N) (k : Kind F P) → waits_at world q n k ≡ true
      → IsEarlier world (birth_of world n) (stamp_of world q) × (is_instance k ≡ false)
      × IsEarlier world (stamp_of world q) (stamp_of world n)
  waits_at-parts q n k e =
      let t = and_parts _ _ e in
      let u = and_parts _ _ t.0 in
      (is_earlier _ _ u.0, false_from_not _ u.1, is_earlier _ _ t.1)

  pub waits_at-true : (q n : N) (k : Kind F P) → IsEarlier world (birth_of world n) (stamp_of world q)
      → is_instance k ≡ false → IsEarlier world (stamp_of world q) (stamp_of world n) → waits_at world q n k ≡ true
  waits_at-true q n k b i e =
      ap (λ x. (x && not (is_instance k)) && is_lt (stamps_cmp world.mode (stamp_of world q) (stamp_of world n))) (ap is_lt b)
      ∙ ap (λ x. not x && is_lt (stamps_cmp world.mode (stamp_of world q) (stamp_of world n))) i
      ∙ ap is_lt e

  not_instance : (k : Kind F P) → steps.IsExpanded world k → is_instance k ≡ false
  not_instance k x = elim x [ inl d ↦ ap is_instance d | inr f ↦ ap is_instance f.1 ]

  waiting_or_expanded : (k : Kind F P) → is_instance k ≡ false → (is_waiting k ≡ true) ⊎ steps.IsExpanded world k
  waiting_or_expanded Waiting e = inl refl
  waiting_or_expanded Done e = inr (inl refl)
  waiting_or_expanded (Faulted f) e = inr (inr (f, refl))
  waiting_or_expanded (Instance p) e = let x : true ≡ false = e in cc

  module _ (C D : Members) (s : N) (good : steps.IsOrdered world C) (step : IsStep world C D s) where
    abbrev kind : Kind F P
    kind = steps.kind_after world (outcome world C s)

    abbrev children : Members
    children = steps.children_of world (outcome world C s)

    changes : steps.Changes world C D s kind children
    changes = steps.Changes-step world laws C D s good step

    -- a child was made too late for what has a stamp up to that of s
    too_late : (c n : N) (k : Kind F P) → Has children c k → IsEarlier world (birth_of world c) (stamp_of world n)
        → (stamp_of world n ≡ stamp_of world s) ⊎ IsEarlier world (stamp_of world n) (stamp_of world s) → ⊥
    too_late c n k h e o =
        let now : IsEarlier world (stamp_of world s) (stamp_of world n) = subst (λ x. IsEarlier world x (stamp_of world n)) (steps.child_birth world laws C D s good step c k h) e in
        elim o [
          | inl q ↦ not_self (stamp_of world s) (subst (IsEarlier world (stamp_of world s)) q now)
          | inr l ↦ stamps.not_both (stamps_cmp world.mode) order (stamp_of world s) (stamp_of world n) now l
        ]

    -- a member of the new list that exists at such a stamp is one of the old
    existed : (n m : N) (k : Kind F P)
        → (stamp_of world n ≡ stamp_of world s) ⊎ IsEarlier world (stamp_of world n) (stamp_of world s) → Has D m k
        → IsEarlier world (birth_of world m) (stamp_of world n) → (Has C m k) ⊎ ((m ≡ s) × (k ≡ kind))
    existed n m k o h e = elim (changes.from m k h) [
      | inl a ↦ inl a.1
      | inr r ↦ elim r [ inl q ↦ inr q | inr c ↦ absurd (too_late m n k c e o) ]
    ]

    still : (n : N) (k : Kind F P) → Has C n k → ((k ≡ Waiting) × (n ≡ s)) ⊎ Has D n k
    still n k h = elim (place_dec world n s) [
      | inl same ↦ let one = good.distinct n s k Waiting h step.waits same in inl (one.1, one.0)
      | inr apart ↦ inr (changes.to n k apart h)
    ]

    there : (n : N) (k : Kind F P) → Has C n k → (j : Kind F P) × Has D n j × (is_instance j ≡ is_instance k)
    there n k h = elim (still n k h) [
      | inl e ↦ (kind, subst (λ x. Has D x kind) (sym e.1) changes.itself, not_instance kind (steps.expanded_after world (outcome world C s)) ∙ sym (ap is_instance e.0))
      | inr d ↦ (k, d, refl)
    ]

    -- what a shape with a smaller stamp sees stays as it is
    sees_existing : (n : N) → IsEarlier world (stamp_of world n) (stamp_of world s)
        → SameSeen world n (shapes_where (exists_at world n) C) (shapes_where (exists_at world n) D)
    sees_existing n before m v = (
      (λ h.
          let w = Has-from_shapes_where (exists_at world n) C m h in
          let d = there m w.0 w.1 in
          Among-shapes_where (exists_at world n) D m d.0 d.1 w.2),
      (λ h.
          let w = Has-from_shapes_where (exists_at world n) D m h in
          elim (existed n m w.0 (inr before) w.1 (is_earlier _ _ w.2)) [
            | inl g ↦ Among-shapes_where (exists_at world n) C m w.0 g w.2
            | inr q ↦ Among-shapes_where (exists_at world n) C m Waiting (subst (λ x. Has C x Waiting) (sym q.0) step.waits) w.2
          ]),
    )

    sees_waiting : (n : N) → IsEarlier world (stamp_of world n) (stamp_of world s)
        → SameSeen world n (shapes_where (waits_at world n) C) (shapes_where (waits_at world n) D)
    sees_waiting n before m v = (
      (λ h.
          let w = Has-from_shapes_where (waits_at world n) C m h in
          let d = there m w.0 w.1 in
          let p = waits_at-parts n m w.0 w.2 in
          Among-shapes_where (waits_at world n) D m d.0 d.1 (waits_at-true n m d.0 p.0 (d.2 ∙ p.1) p.2)),
      (λ h.
          let w = Has-from_shapes_where (waits_at world n) D m h in
          let p = waits_at-parts n m w.0 w.2 in
          elim (existed n m w.0 (inr before) w.1 p.0) [
            | inl g ↦ Among-shapes_where (waits_at world n) C m w.0 g w.2
            | inr q ↦ Among-shapes_where (waits_at world n) C m Waiting (subst (λ x. Has C x Waiting) (sym q.0) step.waits) (waits_at-true n m Waiting p.0 refl p.2)
          ]),
    )

    -- what a shape with a smaller stamp is answered stays
    pub same_answers : (n : N) → IsEarlier world (stamp_of world n) (stamp_of world s)
        → world.answers n (shapes_where (exists_at world n) C) (shapes_where (waits_at world n) C) ≡ world.answers n
        (shapes_where (exists_at world n) D) (shapes_where (waits_at world n) D)
    same_answers n before = laws.local n _ _ _ _ (sees_existing n before) (sees_waiting n before)

    same_outcome : (n : N) → IsEarlier world (stamp_of world n) (stamp_of world s)
        → outcome_at world C n ≡ outcome_at world D n
    same_outcome n before = ap (world.expand n) (same_answers n before)

    -- what s saw is what it sees at its stamp
    saw_existing : SameSeen world s (shapes_where (λ n k. true) C) (shapes_where (exists_at world s) D)
    saw_existing m v = (
      (λ h.
          let w = Has-from_shapes_where (λ n k. true) C m h in
          let d = there m w.0 w.1 in
          Among-shapes_where (exists_at world s) D m d.0 d.1 (ap is_lt (good.born m s w.0 w.1 step.waits))),
      (λ h.
          let w = Has-from_shapes_where (exists_at world s) D m h in
          elim (existed s m w.0 (inl refl) w.1 (is_earlier _ _ w.2)) [
            | inl g ↦ Among-shapes_where (λ n k. true) C m w.0 g refl
            | inr q ↦ Among-shapes_where (λ n k. true) C m Waiting (subst (λ x. Has C x Waiting) (sym q.0) step.waits) refl
          ]),
    )

    saw_waiting : SameSeen world s (shapes_where (λ n k. is_waiting k) C) (shapes_where (waits_at world s) D)
    saw_waiting m v = (
      (λ h.
          let w = Has-from_shapes_where (λ n k. is_waiting k) C m h in
          let g = waits C m w.0 w.1 w.2 in
          let apart = laws.unseen s m v in
          Among-shapes_where (waits_at world s) D m Waiting (changes.to m Waiting apart g)
          (waits_at-true s m Waiting (good.born m s Waiting g step.waits) refl (steps.least world laws C D s good step m g apart))),
      (λ h.
          let w = Has-from_shapes_where (waits_at world s) D m h in
          let p = waits_at-parts s m w.0 w.2 in
          elim (existed s m w.0 (inl refl) w.1 p.0) [
            | inl g ↦ elim (waiting_or_expanded w.0 p.1) [
              | inl y ↦ Among-shapes_where (λ n k. is_waiting k) C m w.0 g y
              | inr x ↦ absurd (stamps.not_both (stamps_cmp world.mode) order (stamp_of world s) (stamp_of world m) p.2 (good.done m s w.0 g x step.waits))
            ]
            | inr q ↦ Among-shapes_where (λ n k. is_waiting k) C m Waiting (subst (λ x. Has C x Waiting) (sym q.0) step.waits) refl
          ]),
    )

    -- what s was answered is what it is answered at its stamp
    pub saw_answers : world.answers s (shapes_where (λ n k. true) C) (shapes_where (λ n k. is_waiting k) C) ≡
        world.answers s (shapes_where (exists_at world s) D) (shapes_where (waits_at world s) D)
    saw_answers = laws.local s _ _ _ _ saw_existing saw_waiting

    saw : outcome world C s ≡ outcome_at world D s
    saw = ap (world.expand s) saw_answers

    stands_on : (c : N) (k : Kind F P) → Stands C c k → Stands D c k
    stands_on c k (now, has, alike, same) =
        elim (still c now has) [
          | inl e ↦
              let waited : is_instance k ≡ false = sym alike ∙ ap is_instance e.0 in
              let d = there c now has in
              (d.0, d.1, d.2 ∙ alike, λ i. let x : false ≡ true = sym waited ∙ i in cc)
          | inr d ↦ (now, d, alike, same)
        ]

    outcome_on : (k : Kind F P) (r : Result Members F) → HasOutcome C k r → HasOutcome D k r
    outcome_on k (Ok cs) h = (h.0, λ c j i. stands_on c j (h.1 c j i))
    outcome_on k (Err f) h = h

    kept_done : (e : N) → Has C e Done → Has D e Done
    kept_done e h = elim (still e Done h) [ inl q ↦ let x : Done ≡ Waiting = q.0 in cc | inr d ↦ d ]

    made_on : (n : N) → IsMade world C n → IsMade world D n
    made_on n (e, cs, has, made, child) = (e, cs, kept_done e has, sym (same_outcome e (good.done e s Done has (inl refl) step.waits)) ∙ made, child)

    own_outcome : HasOutcome D kind (outcome world C s)
    own_outcome = by (outcome world C s) changes.created
      where
        by : (r : Result Members F) → ((n : N) (k : Kind F P) → Has (steps.children_of world r) n k → Has D n k)
            → HasOutcome D (steps.kind_after world r) r
        by (Ok cs) created = (refl, λ c j i. (j, created c j i, refl, λ e. refl))
        by (Err f) created = refl

    made_child : (c : N) (k : Kind F P) → Has children c k → IsMade world D c
    made_child c k h = by (outcome world C s) refl h
      where
        by : (r : Result Members F) → outcome world C s ≡ r → Has (steps.children_of world r) c k → IsMade world D c
        by (Ok cs) e i = (s, cs, subst (λ r. Has D s (steps.kind_after world r)) e changes.itself, sym saw ∙ e, (k, i))
        by (Err f) e i = absurd i

    pub settled-next : IsSettled C → IsSettled D
    settled-next settled = record {
      each = λ n k h x. elim (changes.from n k h) [
        | inl a ↦ subst (HasOutcome D k) (same_outcome n (good.done n s k a.1 x step.waits)) (outcome_on k _ (settled.each n k a.1 x))
        | inr r ↦ elim r [
          | inl e ↦ subst (λ m. HasOutcome D k (outcome_at world D m)) (sym e.0) (subst (λ j. HasOutcome D j (outcome_at world D s)) (sym e.1) (subst (HasOutcome D kind) saw own_outcome))
          | inr c ↦ absurd ((steps.law world laws C D s good step n k c).2 x)
        ]
      ];
      only = λ n k h. elim (changes.from n k h) [
        | inl a ↦ elim (settled.only n k a.1) [ inl r ↦ inl r | inr m ↦ inr (made_on n m) ]
        | inr r ↦ elim r [
          | inl e ↦ elim (settled.only s Waiting step.waits) [
            | inl q ↦ inl (subst (λ x. Among x world.roots) (sym e.0) q)
            | inr m ↦ inr (subst (IsMade world D) (sym e.0) (made_on s m))
          ]
          | inr c ↦ inr (made_child n k c)
        ]
      ];
      roots = λ n r. stands_on n Waiting (settled.roots n r);
    }

  settled-start : IsSettled (start world)
  settled-start = record {
    each = λ n k h x. absurd (steps.not_waiting world k x (Has-start world world.roots n k h).1);
    only = λ n k h. inl (Has-start world world.roots n k h).0;
    roots = λ n r. (Waiting, start-Has world world.roots n r, refl, λ e. refl);
  }

  pub settled-reached : (taken : List N) (C : Members) → Reached world taken C → IsSettled C
  settled-reached [] C e = subst IsSettled (sym e) settled-start
  settled-reached (s ∷ taken) D (C, reached, step) = settled-next C D s (steps.in_order world laws taken C reached) step (settled-reached taken C reached)

  -- what a derivation ends with is consistent
  pub consistent-reached : (taken : List N) (C : Members) → Reached world taken C → NothingWaits world None C
      → IsConsistent world None C
  consistent-reached taken C reached quiet =
      let settled = settled-reached taken C reached in
      record {
        distinct = (steps.in_order world laws taken C reached).distinct;
        roots = settled.roots;
        each = λ n k h i l. elim (waiting_or_expanded k i) [ inl y ↦ absurd (quiet n (waits C n k h y) tt) | inr x ↦ settled.each n k h x ];
        only = λ n k h l. settled.only n k h;
      }

  -- what s saw was made before its stamp
  pub sees-step : (taken : List N) (C D : Members) (s : N) → Reached world taken C → IsStep world C D s
      → SeesWhatWasMade world C D s
  sees-step taken C D s reached step =
      let good = steps.in_order world laws taken C reached in
      record {
        made = λ n k h. ap is_lt (good.born n s k h step.waits);
        only = λ n k h e. elim (existed C D s good step s n k (inl refl) h (is_earlier _ _ e)) [
          | inl g ↦ (k, g)
          | inr q ↦ (Waiting, subst (λ x. Has C x Waiting) (sym q.0) step.waits)
        ];
        outcome = saw C D s good step;
      }
