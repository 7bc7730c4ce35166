-- In which order members stand in a configuration that was reached.
use Rattle.std.proofs.Common.{◌≡◌, ℕ, zero, suc, ◌+◌, ◌<◌, List, [], ◌∷◌, ◌++◌, length, map, true, false, cond, refl, sym, ap, ◌∙◌, subst, ◌⊎◌, inl, inr, Result, Ok, Err, Some, arith}
use Rattle.std.specs.Prelude.{slice_get}
use Rattle.cga_order.specs.Chain.{IsChild}
use Rattle.cga_order.specs.World.{World, IsWorld, Placed, Kind, Waiting, stamp_of, birth_of, IsEarlier}
use Rattle.cga_order.specs.Run.{same_place, become, outcome, start, IsStep, Reached, AreSiblings, StandsByBirth}
use Rattle.cga_order.proofs.Chains.{birth-child}
use Rattle.cga_order.proofs.Steps as steps
use Rattle.cga_fraction.proofs.Door.{None-not-Some as none_some, length-map, same_Some as some_same}
use Rattle.cga_order.proofs.Members.{slice_get-Has}

module _ {X : Type 0} where
  -- what stands in a list that is put together stands in its first part, or in its second
  pub slice_get-append : (xs ys : List X) (i : ℕ) (x : X) → slice_get (xs ++ ys) i ≡ Some x
      → ((i < length xs) × (slice_get xs i ≡ Some x)) ⊎ ((k : ℕ) × (i ≡ length xs + k) × (slice_get ys k ≡ Some x))
  slice_get-append [] ys i x e = inr (i, omega arith, e)
  slice_get-append (z ∷ xs) ys zero x e = inl (omega arith, e)
  slice_get-append (z ∷ xs) ys (suc i) x e = elim (slice_get-append xs ys i x e) [
    | inl h ↦ inl (omega (arith, h.0), h.1)
    | inr h ↦ inr (h.0, omega (arith, h.1), h.2)
  ]

  -- what stands at an index of a mapped list is the image of what stands there in the list
  pub slice_get-map : {Y : Type 0} (f : Y → X) (ys : List Y) (i : ℕ) (x : X) → slice_get (map f ys) i ≡ Some x
      → (y : Y) × (slice_get ys i ≡ Some y) × (f y ≡ x)
  slice_get-map f [] i x e = none_some x e
  slice_get-map f (y ∷ ys) zero x e = (y, refl, some_same (f y) x e)
  slice_get-map f (y ∷ ys) (suc i) x e = slice_get-map f ys i x e

  -- an index with an element is below the length of the list
  pub slice_get-within : (xs : List X) (i : ℕ) (x : X) → slice_get xs i ≡ Some x → i < length xs
  slice_get-within [] i x e = none_some x e
  slice_get-within (y ∷ xs) zero x e = omega arith
  slice_get-within (y ∷ xs) (suc i) x e = omega (arith, slice_get-within xs i x e)

module _ {N A F P : Type 0} (world : World N A F P) (laws : IsWorld world) where
  abbrev pub Members : Type 0
  Members = List (Placed N F P)

  become-shape : (s : N) (k : Kind F P) (m : Placed N F P) → (become world s k m).shape ≡ m.shape
  become-shape s k m = elim (same_place (world.chain m.shape) (world.chain s)) as (λ b. (cond b (record { shape = m.shape; kind = k }) m).shape ≡ m.shape) [ true ↦ refl | false ↦ refl ]

  module _ (C D : Members) (s : N) (good : steps.IsOrdered world C) (step : IsStep world C D s) where
    abbrev pub kind : Kind F P
    kind = steps.kind_after world (outcome world C s)

    child_at : (k : ℕ) (m : Placed N F P) (r : Result Members F) → outcome world C s ≡ r
        → slice_get (steps.children_of world r) k ≡ Some m → IsChild (world.chain s) k (world.chain m.shape)
    child_at k m (Ok cs) e g = (laws.child s _ cs e k m g).0
    child_at k m (Err f) e g = none_some m g

    -- a member of the new list was in the old at its place, or is a child
    pub created_from : (i : ℕ) (m : Placed N F P) → slice_get D i ≡ Some m
        → ((i < length C) × ((o : Placed N F P) × (slice_get C i ≡ Some o) × (o.shape ≡ m.shape)))
        ⊎ ((k : ℕ) × (i ≡ length C + k) × IsChild (world.chain s) k (world.chain m.shape))
    created_from i m e =
        let size = length-map (become world s kind) C in
        elim (slice_get-append (map (become world s kind) C) (steps.children_of world (outcome world C s)) i m
        (subst (λ x. slice_get x i ≡ Some m) (step.told ∙ steps.told-is world C s (outcome world C s)) e)) [
          | inl h ↦
              let w = slice_get-map (become world s kind) C i m h.1 in
              inl (omega (arith, h.0, size), (w.0, w.1, sym (become-shape s kind w.0) ∙ ap (λ x. x.shape) w.2))
          | inr h ↦ inr (h.0, omega (arith, h.1, size), child_at h.0 m (outcome world C s) refl h.2)
        ]

    stands-next : StandsByBirth world C → StandsByBirth world D
    stands-next stands i j m n e f lt past = elim (created_from j n f) [
      | inl there ↦ elim (created_from i m e) [
        | inl here ↦ alike here.1.0.shape m.shape there.1.0.shape n.shape here.1.2 there.1.2 (stands i j here.1.0 there.1.0 here.1.1 there.1.1 lt past)
        | inr here ↦ absurd (omega (arith, lt, there.0, here.1))
      ]
      | inr there ↦
          let birth = birth-child world.mode (world.chain s) there.0 (world.chain n.shape) (laws.whole s) there.2 in
          elim (created_from i m e) [
            | inl here ↦
                let made = good.born here.1.0.shape s here.1.0.kind (slice_get-Has C i here.1.0 here.1.1) step.waits in
                inl (subst (λ b. IsEarlier world (birth_of world m.shape) b) (sym birth) (subst (λ x. IsEarlier world (birth_of world x) (stamp_of world s)) here.1.2 made))
            | inr here ↦ inr (s, here.0, there.0, here.2, there.2, omega (arith, lt, here.1, there.1))
          ]
    ]
      where
        alike : (a a' b b' : N) → a ≡ a' → b ≡ b'
            → IsEarlier world (birth_of world a) (birth_of world b) ⊎ AreSiblings world a b
            → IsEarlier world (birth_of world a') (birth_of world b') ⊎ AreSiblings world a' b'
        alike a a' b b' p q h = subst (λ x. IsEarlier world (birth_of world x) (birth_of world b')
            ⊎ AreSiblings world x b') p (subst (λ y. IsEarlier world (birth_of world a) (birth_of world y) ⊎ AreSiblings world a y) q h)

  stands-start : StandsByBirth world (start world)
  stands-start i j m n e f lt past =
      let within = slice_get-within (start world) j n f in
      let size : length (start world) ≡ length world.roots = length-map (λ r. record { shape = r; kind = Waiting }) world.roots in
      absurd (omega (arith, within, size, past))

  -- in each configuration that is reached they stand so
  pub stands-reached : (taken : List N) (C : Members) → Reached world taken C → StandsByBirth world C
  stands-reached [] C e = subst (StandsByBirth world) (sym e) stands-start
  stands-reached (s ∷ taken) D (C, reached, step) = stands-next C D s (steps.in_order world laws taken C reached) step (stands-reached taken C reached)
