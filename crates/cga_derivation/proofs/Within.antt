-- A derivation is within each budget that a consistent list is within.
use Rattle.std.proofs.Common.{◌≡◌, ℕ, ◌+◌, ◌≤◌, ◌<◌, List, [], ◌∷◌, length, map, refl, sym, ap, ◌∙◌, subst, inl, inr, Option, Some, None, arith}
use Rattle.std.specs.Prelude.{nat_lt, if◌then◌else◌}
use Rattle.std.proofs.lemmas.Bool.Decides.{nat_tests}
use Rattle.cga_order.proofs.Door.{Once-index, has_members, length-once, slice_get-map}
use Rattle.std.proofs.lemmas.Bool.{cases_Bool as either}
use Rattle.cga_order.specs.declared.placed.Placed.{Placed}
use Rattle.cga_order.specs.declared.placed.Kind.{Kind}
use Rattle.cga_order.specs.Consistent as order
use Rattle.cga_order.specs.Consistent.{SameMembers}
use Rattle.cga_order.specs.Once.{Once}
use Rattle.cga_order.specs.World.{Has, Among}
use Rattle.cga_derivation.specs.Consistent.{IsConsistent}
use Rattle.cga_derivation.specs.Derivation.{Derivation, IsDerivation, IsDerived, AllApart, NothingWaits, place_of, reached, derive}
use Rattle.cga_derivation.specs.Sites.{Site, sites, taken}
use Rattle.cga_derivation.proofs.Along.{erase-sites, reached-sites, length-map}
use Rattle.cga_derivation.proofs.Apart.{apart-reached}
use Rattle.cga_derivation.proofs.Derive.{says}
use Rattle.cga_derivation.proofs.Least.{Has-erased}
use Rattle.cga_derivation.proofs.Derived.{derived_consistent}
use Rattle.cga_derivation.proofs.One.{Says, one, within}
use Rattle.cga_derivation.proofs.Sites.{world}
use Rattle.cga_derivation.proofs.Unique as unique

-- ---- the places of members

module _ {N A F P : Type 0} (derivation : Derivation N A F P) where
  -- the places of the members, in their order
  abbrev pub places : List (Placed N F P) → List (List ℕ × List ℕ)
  places ms = map (λ m. place_of derivation m.shape) ms

  -- the place of a member is among the places
  pub Has-places : (ms : List (Placed N F P)) (x : N) (k : Kind F P) → Has ms x k
      → Among (place_of derivation x) (places ms)
  Has-places [] x k h = absurd h
  Has-places (m ∷ ms) x k h = elim h [ inl e ↦ inl (ap (place_of derivation) e.0) | inr r ↦ inr (Has-places ms x k r) ]

  -- each of the places is that of a member
  pub places-Has : (ms : List (Placed N F P)) (p : List ℕ × List ℕ) → Among p (places ms)
      → (x : N) × (k : Kind F P) × Has ms x k × (place_of derivation x ≡ p)
  places-Has [] p h = absurd h
  places-Has (m ∷ ms) p h = elim h [
    | inl e ↦ (m.shape, m.kind, inl (refl, refl), e)
    | inr r ↦ let w = places-Has ms p r in (w.0, w.1, inr w.2, w.3)
  ]

  -- where members at two indices have two places, each place stands once
  pub places_once : (ms : List (Placed N F P)) → AllApart derivation ms → Once (places ms)
  places_once ms apart = Once-index (places ms) (λ p i j a b.
      let v = slice_get-map (λ m. place_of derivation m.shape) ms i p a in
      let w = slice_get-map (λ m. place_of derivation m.shape) ms j p b in
      apart i j v.0 w.0 v.1 w.1 (v.2 ∙ sym w.2))

  -- there are as many places as members
  pub length-places : (ms : List (Placed N F P)) → length (places ms) ≡ length ms
  length-places ms = length-map (λ m. place_of derivation m.shape) ms

  -- a list whose places stand once, and stand in another, is no longer than that
  pub no_longer : (ms ns : List (Placed N F P)) → AllApart derivation ms
      → ((x : N) (k : Kind F P) → Has ms x k → (y : N) × (j : Kind F P) × Has ns y j
      × (place_of derivation y ≡ place_of derivation x))
      → length ms ≤ length ns
  no_longer ms ns apart there =
      let less = length-once (places ms) (places ns) (places_once ms apart) (λ p h.
      let w = places-Has ms p h in
      let v = there w.0 w.1 w.2 in
      subst (λ q. Among q (places ns)) (v.3 ∙ w.3) (Has-places ns v.0 v.1 v.2)) in
      omega (arith, less, length-places ms, length-places ns)

-- the derivation, whose configurations all have few members, ends within that many
pub ends_within : {N A F P : Type 0} (derivation : Derivation N A F P) (laws : IsDerivation derivation) (budget : ℕ)
    → ((n : ℕ) → length (reached derivation n) ≤ budget)
    → (list : List (Placed N F P)) × (derive derivation budget ≡ Some list) × IsDerived derivation list
ends_within {N} {A} {F} {P} derivation laws budget bounded = by (derive derivation budget) refl
  where
    by : (o : Option (List (Placed N F P))) → derive derivation budget ≡ o
        → (list : List (Placed N F P)) × (derive derivation budget ≡ Some list) × IsDerived derivation list
    by (Some list) e = (list, e, within derivation laws budget list e)
    by None e =
        let h : Says derivation laws budget None = subst (Says derivation laws budget) e (says derivation laws budget) in
        absurd (omega (arith, h.1, bounded h.0))

module _ {N A F P : Type 0} (derivation : Derivation N A F P) (laws : IsDerivation derivation) (list : List (Placed N F P)) (good : IsConsistent derivation list) where
  all_before : (seen : List (Site N)) → order.AllBefore (unique.W derivation laws list good) None seen
  all_before [] = tt
  all_before (s ∷ seen) = (tt, all_before seen)

  -- each member of a configuration stands in the list
  pub stands : (n : ℕ) (x : N) (k : Kind F P) → Has (reached derivation n) x k → (j : Kind F P) × Has list x j
  stands n x k h =
      let w = Has-erased (sites derivation n) x k (subst (λ l. Has l x k) (sym (erase-sites derivation n)) h) in
      let there = has_members (unique.W derivation laws list good) (world derivation laws) None
      (unique.lifts derivation laws list good list) (unique.consistent derivation laws list good)
      (taken derivation n) (sites derivation n) (reached-sites derivation n) (all_before (taken derivation n)) w.0 k w.1 in
      (there.0, subst (λ y. Has list y there.0) w.2 (unique.lifts-Has derivation laws list good list w.0 there.0 there.1).0)

  bounded : (n : ℕ) → length (reached derivation n) ≤ length list
  bounded n = no_longer derivation (reached derivation n) list (apart-reached derivation laws n) (λ x k h. let w = stands n x k h in (x, w.0, w.1, refl))

  pub consistent_within : (budget : ℕ) → length list ≤ budget
      → (derived : List (Placed N F P)) × (derive derivation budget ≡ Some derived) × SameMembers list derived
      × (length list ≡ length derived)
  consistent_within budget fits =
      let ends = ends_within derivation laws budget (λ n. omega (arith, fits, bounded n)) in
      let n = ends.2.0 in
      let is : ends.0 ≡ reached derivation n = ends.2.1 in
      let same : SameMembers list ends.0 = subst (SameMembers list) (sym is) (unique.unique derivation laws list good n (subst (NothingWaits derivation) is ends.2.2)) in
      let more = no_longer derivation list ends.0 good.apart (λ x k h. (x, k, (same x k).0 h, refl)) in
      let less : length ends.0 ≤ length list = subst (λ l. length l ≤ length list) (sym is) (bounded n) in
      (ends.0, ends.1, same, omega (arith, more, less))

-- ---- exactly which budgets

module _ {N A F P : Type 0} (derivation : Derivation N A F P) (laws : IsDerivation derivation) (list : List (Placed N F P)) (ended : IsDerived derivation list) where
  over : (budget : ℕ) → budget < length list → (o : Option (List (Placed N F P))) → derive derivation budget ≡ o
      → o ≡ None
  over budget less None e = refl
  over budget less (Some other) e =
      let h : Says derivation laws budget (Some other) = subst (Says derivation laws budget) e (says derivation laws budget) in
      let all = h.0 ended.0 in
      absurd (omega (arith, less, all, ap length ended.1))

  good : IsConsistent derivation list
  good = subst (IsConsistent derivation) (sym ended.1) (derived_consistent derivation laws ended.0 (subst (NothingWaits derivation) ended.1 ended.2))

  fits : (budget : ℕ) → length list ≤ budget → derive derivation budget ≡ Some list
  fits budget few =
      let w = consistent_within derivation laws list good budget few in
      w.1 ∙ ap Some (one derivation laws w.0 list (within derivation laws budget w.0 w.1) ended)

  pub budget_is : (budget : ℕ) → derive derivation budget ≡ (if nat_lt budget (length list) then None else Some list)
  budget_is budget = elim (either (nat_lt budget (length list))) [
    | inl t ↦
        let less : budget < length list = grind (arith, nat_tests) in
        over budget less (derive derivation budget) refl ∙ ap (λ b. if b then None else Some list) (sym t)
    | inr t ↦
        let few : length list ≤ budget = grind (arith, nat_tests) in
        fits budget few ∙ ap (λ b. if b then None else Some list) (sym t)
  ]
