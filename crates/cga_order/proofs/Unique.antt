-- A list that is consistent, as far as a limit, has the members of the derivation that far.
use Rattle.std.proofs.Common.{◌≡◌, ℕ, zero, suc, ◌+◌, ◌<◌, List, [], ◌∷◌, length, true, false, refl, sym, ap, ◌∙◌, subst, ◌⊎◌, inl, inr, ◌&&◌, Ok, Err, Option, Some, None, arith, length-append}
use Rattle.std.specs.Prelude.{not}
use Rattle.std.specs.Ordering.{is_lt}
use Rattle.std.specs.Cmp.{IsTotalOrder}
use Rattle.cga_order.specs.Rank.{Rank}
use Rattle.cga_order.specs.Stamp.{stamps_cmp}
use Rattle.cga_order.specs.World.{World, IsWorld, Placed, Kind, Waiting, Done, Faulted, Instance, Has, Among, shapes_where, is_waiting, is_instance, place_of, stamp_of, birth_of, IsEarlier, SameSeen}
use Rattle.cga_order.specs.Run.{outcome, start, IsStep, Reached}
use Rattle.cga_order.specs.Consistent.{exists_at, waits_at, outcome_at, Stands, IsBefore, HasOutcome, IsConsistent, AllBefore, NothingWaits, SameMembers, HasMembers, HasMade}
use Rattle.cga_order.specs.Total.{stamps_total}
use Rattle.cga_order.proofs.Chains.{birth-stamp, birth-child}
use Rattle.cga_order.proofs.Members.{waits, place_dec, Has-start, start-Has, Among-shapes_where, Has-from_shapes_where}
use Rattle.cga_order.proofs.Steps as steps
use Rattle.cga_order.proofs.Maxima.{either}
use Rattle.cga_order.proofs.Maxima as stamps
use Rattle.cga_fraction.proofs.Door.{Less_from_is_lt, false_from_not}
use Rattle.std.proofs.lemmas.Bool.{and_parts}

module _ {N A F P : Type 0} (world : World N A F P) (laws : IsWorld world) (limit : Option (List Rank)) (L : List (Placed N F P)) (con : IsConsistent world limit L) where
  abbrev Members : Type 0
  Members = List (Placed N F P)

  order : IsTotalOrder (stamps_cmp world.mode)
  order = stamps_total world.mode

  -- a configuration, beside the consistent list
  pub record Fits (C : Members) : Type 0 where
    pub waiting : (n : N) → Has C n Waiting → Stands L n Waiting
    pub settled : (n : N) (k : Kind F P) → Has C n k → is_waiting k ≡ false → Has L n k
    pub roots_in : (n : N) → Among n world.roots → (k : Kind F P) × Has C n k
    pub closed : (e c : N) (j : Kind F P) (cs : Members) → Has C e Done → outcome_at world L e ≡ Ok cs → Has cs c j
        → (k : Kind F P) × Has C c k

  before-earlier : (a b : List Rank) → IsEarlier world a b → IsBefore world limit b → IsBefore world limit a
  before-earlier a b e h = elim limit as (λ v. IsBefore world v b → IsBefore world v a) [
    | None ↦ λ g. tt
    | Some l ↦ λ g. order.trans a b l e g
  ] h

  grown : (n : N) → IsEarlier world (birth_of world n) (stamp_of world n)
  grown n = birth-stamp world.mode (world.chain n)

  -- a child that the list has made was made at its parent's stamp
  made-birth : (s c : N) (cs : Members) (j : Kind F P) → outcome_at world L s ≡ Ok cs → Has cs c j
      → (birth_of world c ≡ stamp_of world s) × (length (world.chain c).path ≡ length (world.chain s).path + 1)
  made-birth s c cs j e h =
      let u = steps.child_of world laws s _ cs e c j h in
      (birth-child world.mode (world.chain s) u.0 (world.chain c) (laws.whole s) u.5, ap length u.5.path ∙ length-append (world.chain s).path (u.0 ∷ []))

  module _ (C : Members) (good : steps.IsOrdered world C) (fits : Fits C) where
    -- what waits is in the list, and so is what is settled
    pub listed : (n : N) (k : Kind F P) → Has C n k → (j : Kind F P) × Has L n j × (is_waiting k ≡ false → j ≡ k)
    listed n k h = elim k as (λ v. Has C n v → (j : Kind F P) × Has L n j × (is_waiting v ≡ false → j ≡ v)) [
      | Waiting ↦ λ g. let w = fits.waiting n g in (w.0, w.1, λ e. let f : true ≡ false = e in cc)
      | Done ↦ λ g. (Done, fits.settled n Done g refl, λ e. refl)
      | Faulted f ↦ λ g. (Faulted f, fits.settled n (Faulted f) g refl, λ e. refl)
      | Instance p ↦ λ g. (Instance p, fits.settled n (Instance p) g refl, λ e. refl)
    ] h

    -- what is settled has the kind of the list
    settled-kind : (n : N) (k j : Kind F P) → Has C n k → is_waiting k ≡ false → Has L n j → Has C n j
    settled-kind n k j h y g = subst (Has C n) (con.distinct n n k j (fits.settled n k h y) g refl).1 h

    -- what the list has made before a stamp that nothing waiting comes before is in the configuration
    pub present : (bound : ℕ) (m : N) (k : Kind F P) → length (world.chain m).path < bound → Has L m k
        → IsBefore world limit (birth_of world m)
        → ((w : N) → Has C w Waiting → IsEarlier world (stamp_of world w) (birth_of world m)
        ⊎ (stamp_of world w ≡ birth_of world m) → ⊥)
        → (j : Kind F P) × Has C m j
    present zero m k lt h b quiet = absurd (omega arith)
    present (suc bound) m k lt h b quiet = elim (con.only m k h b) [
      | inl r ↦ fits.roots_in m r
      | inr (s, cs, has, made, child) ↦
          let law = made-birth s m cs child.0 made child.1 in
          let before : IsEarlier world (birth_of world s) (birth_of world m) = subst (λ x. IsEarlier world (birth_of world s) x) (sym law.0) (grown s) in
          let up = present bound s Done (omega (arith, lt, law.1)) has (before-earlier _ _ before b)
          (λ w g o. quiet w g (inl (elim o [ inl l ↦ order.trans _ _ _ l before | inr e ↦ subst (λ x. IsEarlier world x (birth_of world m)) (sym e) before ]))) in
          elim (either (is_waiting up.0)) [
            | inl y ↦ absurd (quiet s (waits C s up.0 up.1 y) (inr (sym law.0)))
            | inr y ↦ fits.closed s m child.0 cs (settled-kind s up.0 Done up.1 y has) made child.1
          ]
    ]

    -- one step, of a shape before the limit
    module _ (D : Members) (s : N) (step : IsStep world C D s) (before : IsBefore world limit (stamp_of world s)) where
      changes : steps.Changes world C D s (steps.kind_after world (outcome world C s))
          (steps.children_of world (outcome world C s))
      changes = steps.Changes-step world laws C D s good step

      least : (w : N) → Has C w Waiting → (place_of world w ≡ place_of world s → ⊥)
          → IsEarlier world (stamp_of world s) (stamp_of world w)
      least = steps.least world laws C D s good step

      -- no waiting member comes before what was made before s
      quiet : (m : N) → IsEarlier world (birth_of world m) (stamp_of world s) → (w : N) → Has C w Waiting
          → IsEarlier world (stamp_of world w) (birth_of world m) ⊎ (stamp_of world w ≡ birth_of world m) → ⊥
      quiet m e w h o =
          let below : IsEarlier world (stamp_of world w) (stamp_of world s) = elim o [
            | inl l ↦ order.trans _ _ _ l e
            | inr q ↦ subst (λ x. IsEarlier world x (stamp_of world s)) (sym q) e
          ] in
          elim (place_dec world w s) [
            | inl same ↦
                let one = (good.distinct w s Waiting Waiting h step.waits same).0 in
                stamps.not_self (stamps_cmp world.mode) order (stamp_of world s) (subst (λ x. IsEarlier world (stamp_of world x) (stamp_of world s)) one below)
            | inr apart ↦ stamps.not_both (stamps_cmp world.mode) order (stamp_of world w) (stamp_of world s) below (least w h apart)
          ]

      made_before : (m : N) (k : Kind F P) → Has L m k → IsEarlier world (birth_of world m) (stamp_of world s)
          → (j : Kind F P) × Has C m j
      made_before m k h e = present (length (world.chain m).path + 1) m k (omega arith) h (before-earlier _ _ e before) (quiet m e)

      -- what s sees in the configuration is what it sees at its stamp in the list
      sees_existing : SameSeen world s (shapes_where (exists_at world s) L) (shapes_where (λ n kind. true) C)
      sees_existing n v = (
        (λ h.
            let w = Has-from_shapes_where (exists_at world s) L n h in
            let f = made_before n w.0 w.1 (Less_from_is_lt _ w.2) in
            Among-shapes_where (λ m k. true) C n f.0 f.1 refl),
        (λ h.
            let w = Has-from_shapes_where (λ m k. true) C n h in
            let g = listed n w.0 w.1 in
            Among-shapes_where (exists_at world s) L n g.0 g.1 (ap is_lt (good.born n s w.0 w.1 step.waits))),
      )

      waits_at-true : (n : N) (k : Kind F P) → IsEarlier world (birth_of world n) (stamp_of world s)
          → is_instance k ≡ false → IsEarlier world (stamp_of world s) (stamp_of world n) → waits_at world s n k ≡ true
      waits_at-true n k b i e =
          ap (λ x. (x && not (is_instance k)) && is_lt (stamps_cmp world.mode (stamp_of world s) (stamp_of world n))) (ap is_lt b)
          ∙ ap (λ x. not x && is_lt (stamps_cmp world.mode (stamp_of world s) (stamp_of world n))) i
          ∙ ap is_lt e

      sees_waiting : SameSeen world s (shapes_where (waits_at world s) L) (shapes_where (λ n kind. is_waiting kind) C)
      sees_waiting n v = (
        (λ h.
            let w = Has-from_shapes_where (waits_at world s) L n h in
            let t = and_parts _ _ w.2 in
            let u = and_parts _ _ t.0 in
            let above = Less_from_is_lt _ t.1 in
            let f = made_before n w.0 w.1 (Less_from_is_lt _ u.0) in
            elim (either (is_waiting f.0)) [
              | inl y ↦ Among-shapes_where (λ m k. is_waiting k) C n f.0 f.1 y
              | inr y ↦
                  let has = settled-kind n f.0 w.0 f.1 y w.1 in
                  let kind = (good.distinct n n f.0 w.0 f.1 has refl).1 in
                  absurd (stamps.not_both (stamps_cmp world.mode) order (stamp_of world s) (stamp_of world n) above
                  (good.done n s w.0 has (steps.expanded_kind world w.0 (subst (λ k. is_waiting k ≡ false) kind y) (false_from_not _ u.1)) step.waits))
            ]),
        (λ h.
            let w = Has-from_shapes_where (λ m k. is_waiting k) C n h in
            let g = waits C n w.0 w.1 w.2 in
            let there = fits.waiting n g in
            Among-shapes_where (waits_at world s) L n there.0 there.1
            (waits_at-true n there.0 (good.born n s Waiting g step.waits) there.2 (least n g (laws.unseen s n v)))),
      )

      agree : outcome_at world L s ≡ outcome world C s
      agree = ap (world.expand s) (laws.local s _ _ _ _ sees_existing sees_waiting)

      -- the list has s as its outcome has it, and its children
      has_outcome : (k : Kind F P) → Has L s k → HasOutcome L k (outcome world C s)
          → Has L s (steps.kind_after world (outcome world C s))
          × ((c : N) (j : Kind F P) → Has (steps.children_of world (outcome world C s)) c j → Stands L c j)
      has_outcome k h o = elim (outcome world C s) as (λ r. HasOutcome L k r → Has L s (steps.kind_after world r) × ((c : N) (j : Kind F P) → Has (steps.children_of world r) c j → Stands L c j)) [
        | Ok cs ↦ λ g. (subst (Has L s) g.0 h, g.1)
        | Err f ↦ λ g. (subst (Has L s) g h, λ c j i. absurd i)
      ] o

      in_list : Has L s (steps.kind_after world (outcome world C s))
          × ((c : N) (j : Kind F P) → Has (steps.children_of world (outcome world C s)) c j → Stands L c j)
      in_list =
          let w = fits.waiting s step.waits in
          has_outcome w.0 w.1 (subst (HasOutcome L w.0) agree (con.each s w.0 w.1 w.2 before))

      still : (n : N) (k : Kind F P) → Has C n k → (j : Kind F P) × Has D n j
      still n k h = elim (place_dec world n s) [
        | inl same ↦
            let one = (good.distinct n s k Waiting h step.waits same).0 in
            (steps.kind_after world (outcome world C s), subst (λ x. Has D x (steps.kind_after world (outcome world C s))) (sym one) changes.itself)
        | inr apart ↦ (k, changes.to n k apart h)
      ]

      child_settled : (c : N) (k : Kind F P) → Has (steps.children_of world (outcome world C s)) c k
          → is_waiting k ≡ false → Has L c k
      child_settled c k h y =
          let there = in_list.1 c k h in
          elim (either (is_instance k)) [
            | inl i ↦ subst (Has L c) (there.3 i) there.1
            | inr i ↦ absurd ((steps.law world laws C D s good step c k h).2 (steps.expanded_kind world k y i))
          ]

      pub next : Fits D
      next = record {
        waiting = λ n h. elim (changes.from n Waiting h) [
          | inl a ↦ fits.waiting n a.1
          | inr r ↦ elim r [
            | inl e ↦ absurd (steps.not_waiting world _ (steps.expanded_after world (outcome world C s)) (sym e.1))
            | inr c ↦ in_list.1 n Waiting c
          ]
        ];
        settled = λ n k h y. elim (changes.from n k h) [
          | inl a ↦ fits.settled n k a.1 y
          | inr r ↦ elim r [
            | inl e ↦ subst (λ x. Has L x k) (sym e.0) (subst (Has L s) (sym e.1) in_list.0)
            | inr c ↦ child_settled n k c y
          ]
        ];
        roots_in = λ n r. let h = fits.roots_in n r in still n h.0 h.1;
        closed = λ e c j cs h made g. elim (changes.from e Done h) [
          | inl a ↦ let w = fits.closed e c j cs a.1 made g in still c w.0 w.1
          | inr r ↦ elim r [
            | inl q ↦
                let is : outcome world C s ≡ Ok cs = sym agree ∙ (ap (outcome_at world L) (sym q.0) ∙ made) in
                (j, changes.created c j (subst (λ x. Has (steps.children_of world x) c j) (sym is) g))
            | inr k ↦ absurd ((steps.law world laws C D s good step e Done k).2 (inl refl))
          ]
        ];
      }

  fits-start : Fits (start world)
  fits-start = record {
    waiting = λ n h. con.roots n (Has-start world world.roots n Waiting h).0;
    settled = λ n k h y. let x : true ≡ false = sym (ap is_waiting (Has-start world world.roots n k h).1) ∙ y in cc;
    roots_in = λ n r. (Waiting, start-Has world world.roots n r);
    closed = λ e c j cs h made g. let x : Done ≡ Waiting = (Has-start world world.roots e Done h).1 in cc;
  }

  -- each configuration that is reached by shapes before the limit fits
  pub fits-reached : (taken : List N) (C : Members) → Reached world taken C → AllBefore world limit taken → Fits C
  fits-reached [] C e b = subst Fits (sym e) fits-start
  fits-reached (s ∷ taken) D (C, reached, step) b = next C (steps.in_order world laws taken C reached) (fits-reached taken C reached b.1) D s step b.0

  -- where all that was taken is before the limit, a list consistent so far has the configuration's members
  pub has_members : (taken : List N) (C : Members) → Reached world taken C → AllBefore world limit taken
      → HasMembers L C
  has_members taken C r b = listed C (steps.in_order world laws taken C r) (fits-reached taken C r b)

  -- where all taken and no waiting shapes are before the limit, what a list consistent so far made before it is reached
  pub has_made : (taken : List N) (C : Members) → Reached world taken C → AllBefore world limit taken
      → NothingWaits world limit C → HasMade world limit C L
  has_made taken C r b quiet n k h e =
      present C (steps.in_order world laws taken C r) (fits-reached taken C r b) (length (world.chain n).path + 1) n k (omega arith) h e
      (λ w g o. quiet w g (elim o [ inl l ↦ before-earlier _ _ l e | inr q ↦ subst (IsBefore world limit) (sym q) e ]))

module _ {N A F P : Type 0} (world : World N A F P) where
  -- every stamp is before no limit
  pub all_before : (taken : List N) → AllBefore world None taken
  all_before [] = tt
  all_before (s ∷ taken) = (tt, all_before taken)

module _ {N A F P : Type 0} (world : World N A F P) (laws : IsWorld world) (L : List (Placed N F P)) (con : IsConsistent world None L) where
  -- where nothing waits, the configuration has the members of the list
  pub same_members : (taken : List N) (C : List (Placed N F P)) → Reached world taken C → NothingWaits world None C
      → SameMembers L C
  same_members taken C r quiet n k =
      let settled : (j : Kind F P) → Has C n j → is_waiting j ≡ false = λ j g. elim (either (is_waiting j)) [ inl y ↦ absurd (quiet n (waits C n j g y) tt) | inr y ↦ y ] in (
        (λ h.
            let c = has_made world laws None L con taken C r (all_before world taken) quiet n k h tt in
            let there = has_members world laws None L con taken C r (all_before world taken) n c.0 c.1 in
            subst (Has C n) (same_kind there.0 c.0 k (there.2 (settled c.0 c.1)) (con.distinct n n there.0 k there.1 h refl).1) c.1),
        (λ h.
            let there = has_members world laws None L con taken C r (all_before world taken) n k h in
            subst (Has L n) (there.2 (settled k h)) there.1),
      )
    where
      same_kind : (a b c : Kind F P) → a ≡ b → a ≡ c → b ≡ c
      same_kind a b c e f = sym e ∙ f
