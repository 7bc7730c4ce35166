-- A consistent list has the members of the derivation.
use Rattle.std.proofs.Common.{◌≡◌, ℕ, zero, suc, ◌+◌, ◌≤◌, List, [], ◌∷◌, ◌++◌, length, take, map, Bool, true, false}
use Rattle.std.proofs.Common.{not, ◌&&◌, cond, refl, sym, ap, ◌∙◌, subst, inl, inr, Result, Ok, Err, None, arith}
use Rattle.std.proofs.Common.{length-append}
use Rattle.std.specs.Prelude.{slice_get}
use Rattle.std.specs.Ordering.{is_lt}
use Rattle.std.proofs.Math.Seq.{take-length}
use Rattle.std.proofs.lemmas.List.{take-append-le}
use lib.Pointwise.{bytes_decides}
use Rattle.cga_order.specs.Chain.{Chain}
use Rattle.cga_order.specs.Stamp.{stamp, birth, stamps_cmp}
use Rattle.cga_order.specs.declared.placed.Placed.{Placed}
use Rattle.cga_order.specs.declared.placed.Kind.{Kind}
use Rattle.cga_order.specs.declared.placed.Kind.TheVariants.{Waiting, Done}
use Rattle.cga_order.specs.World.{World, Has, Among, shapes_where, is_instance}
use Rattle.cga_order.specs.Consistent as order
use Rattle.cga_order.proofs.Door.{Has-index, same_members}
use Rattle.cga_derivation.proofs.Lists.{some_same}
use Rattle.cga_derivation.specs.Derivation.{Derivation, IsDerivation, place_of, reached, NothingWaits}
use Rattle.cga_derivation.specs.Sites.{Site, sited, all_sited, chain_of, world_of, sites, taken}
use Rattle.cga_derivation.specs.Stamps.{stands_at, priority_found, priority_at, priorities_down, chain_in}
use Rattle.cga_derivation.specs.Consistent.{exists_at, waits_at, outcome_at, IsConsistent}
use Rattle.cga_order.specs.Consistent.{Stands, HasOutcome, SameMembers}
use Rattle.cga_derivation.proofs.Sites.{world, fitted-same, Among-rooted}
use Rattle.cga_derivation.proofs.Along.{both, Has-erase, erase-sites, reached-sites}
use Rattle.cga_derivation.proofs.Least.{both_make, first_of-only, Has-erased}

module _ {N : Type 0} where
  -- where a shape is among some, its site with no priorities above it is among theirs
  pub rooted-Among : (ns : List N) (n : N) → Among n ns
      → Among {N = Site N} (record { shape = n; above = [] }) (map (λ (r : N). record { shape = r; above = [] }) ns)
  rooted-Among [] n h = absurd h
  rooted-Among (m ∷ ns) n h = elim h [ inl e ↦ inl (ap (λ (x : N). record { shape = x; above = [] }) e) | inr r ↦ inr (rooted-Among ns n r) ]

module _ {N F P : Type 0} (ps : List ℕ) where
  pub sited-Has : (cs : List (Placed N F P)) (s : Site N) (k : Kind F P) → Has (map (sited ps) cs) s k
      → Has cs s.shape k × (s.above ≡ ps)
  sited-Has [] s k h = absurd h
  sited-Has (c ∷ cs) s k h = elim h [
    | inl e ↦ (inl (ap (λ (x : Site N). x.shape) e.0, e.1), ap (λ (x : Site N). x.above) (sym e.0))
    | inr r ↦ let w = sited-Has cs s k r in (inr w.0, w.1)
  ]

  pub Has-sited : (cs : List (Placed N F P)) (n : N) (k : Kind F P) → Has cs n k
      → Has (map (sited ps) cs) (record { shape = n; above = ps }) k
  Has-sited [] n k h = absurd h
  Has-sited (c ∷ cs) n k h = elim h [ inl e ↦ inl (ap (λ (x : N). record { shape = x; above = ps }) e.0, e.1) | inr r ↦ inr (Has-sited cs n k r) ]

module _ {N A F P : Type 0} (derivation : Derivation N A F P) (laws : IsDerivation derivation) (list : List (Placed N F P)) (good : IsConsistent derivation list) where
  abbrev pub W : World (Site N) A F P
  W = world_of derivation

  abbrev pub down : List ℕ → List ℕ → ℕ → List ℕ
  down = priorities_down derivation list

  abbrev pub site : N → Site N
  site n = record { shape = n; above = down (derivation.lot n) (derivation.path n) (length (derivation.path n)) }

  abbrev pub lifts : List (Placed N F P) → List (Placed (Site N) F P)
  lifts xs = map (λ m. record { shape = site m.shape; kind = m.kind }) xs

  one_place : (n m : N) (k j : Kind F P) → Has list n k → Has list m j → place_of derivation n ≡ place_of derivation m
      → (n ≡ m) × (k ≡ j)
  one_place n m k j h g same =
      let a = Has-index list n k h in
      let b = Has-index list m j g in
      let index : a.0 ≡ b.0 = good.apart a.0 b.0 a.1 b.1 a.2 b.2 (ap (place_of derivation) a.3 ∙ (same ∙ ap (place_of derivation) (sym b.3))) in
      let is = some_same a.1 b.1 (sym a.2 ∙ (ap (slice_get list) index ∙ b.2)) in
      (sym a.3 ∙ (ap (λ (x : Placed N F P). x.shape) is ∙ b.3), sym a.4 ∙ (ap (λ (x : Placed N F P). x.kind) is ∙ b.4))

  priority-here : (n : N) (k : Kind F P) → Has list n k
      → priority_at derivation list (derivation.lot n) (derivation.path n) ≡ derivation.priority n
  priority-here n k h =
      let p = stands_at derivation (derivation.lot n) (derivation.path n) in
      let m : Placed N F P = record { shape = n; kind = k } in
      let here : p m ≡ true = both_make _ _ ((bytes_decides (derivation.lot n) (derivation.lot n)).1 refl) ((bytes_decides (derivation.path n) (derivation.path n)).1 refl) in
      ap (priority_found derivation) (first_of-only p list m h here (λ x j g e. only x j g e))
    where
      only : (x : N) (j : Kind F P) → Has list x j
          → stands_at derivation (derivation.lot n) (derivation.path n) (record { shape = x; kind = j }) ≡ true
          → (x ≡ n) × (j ≡ k)
      only x j g e =
          let parts = both _ _ e in
          one_place x n j k g h (λ i. ((bytes_decides (derivation.lot x) (derivation.lot n)).0 parts.0 i, (bytes_decides (derivation.path x) (derivation.path n)).0 parts.1 i))

  down-length : (lot path : List ℕ) (d : ℕ) → length (down lot path d) ≡ d
  down-length lot path zero = refl
  down-length lot path (suc d) = length-append (down lot path d) (priority_at derivation list lot (take d path) ∷ []) ∙ (ap (λ n. n + 1) (down-length lot path d) ∙ omega arith)

  down-same : (lot p : List ℕ) (i d : ℕ) → d ≤ length p + 1 → down lot (p ++ i ∷ []) d ≡ down lot p d
  down-same lot p i zero h = refl
  down-same lot p i (suc d) h =
      let front : take d (p ++ i ∷ []) ≡ take d p = take-append-le d p (i ∷ []) (omega (arith, h)) in
      λ t. down-same lot p i d (omega (arith, h)) t ++ priority_at derivation list lot (front t) ∷ []

  -- the chain of a lifted member is that which the list tells
  site-chain : (n : N) (k : Kind F P) → Has list n k → chain_of derivation (site n) ≡ chain_in derivation list n
  site-chain n k h =
      let above = fitted-same (length (derivation.path n))
      (down (derivation.lot n) (derivation.path n) (length (derivation.path n)))
      (down-length (derivation.lot n) (derivation.path n) (length (derivation.path n))) in
      let own : derivation.priority n ≡ priority_at derivation list (derivation.lot n)
      (take (length (derivation.path n)) (derivation.path n)) = sym
      (ap (priority_at derivation list (derivation.lot n)) (take-length (derivation.path n)) ∙ priority-here n k h) in
      λ t. record { lot = derivation.lot n; path = derivation.path n; priorities = above t ++ own t ∷ [] }

  pub lifts-Has : (xs : List (Placed N F P)) (s : Site N) (k : Kind F P) → Has (lifts xs) s k
      → Has xs s.shape k × (s ≡ site s.shape)
  lifts-Has [] s k h = absurd h
  lifts-Has (x ∷ xs) s k h = elim h [
    | inl e ↦ (inl (ap (λ (y : Site N). y.shape) e.0, e.1), sym e.0 ∙ ap (λ (y : Site N). site y.shape) e.0)
    | inr r ↦ let w = lifts-Has xs s k r in (inr w.0, w.1)
  ]

  Has-lifts : (xs : List (Placed N F P)) (n : N) (k : Kind F P) → Has xs n k → Has (lifts xs) (site n) k
  Has-lifts [] n k h = absurd h
  Has-lifts (x ∷ xs) n k h = elim h [ inl e ↦ inl (ap site e.0, e.1) | inr r ↦ inr (Has-lifts xs n k r) ]

  shapes-lifts : (t : Site N → Kind F P → Bool) (u : N → Kind F P → Bool) (xs : List (Placed N F P))
      → ((n : N) (k : Kind F P) → Has xs n k → t (site n) k ≡ u n k)
      → map (λ (m : Site N). m.shape) (shapes_where t (lifts xs)) ≡ shapes_where u xs
  shapes-lifts t u [] agree = refl
  shapes-lifts t u (x ∷ xs) agree =
      let rest = shapes-lifts t u xs (λ n k h. agree n k (inr h)) in
      elim (t (site x.shape) x.kind) as (λ b. map (λ (m : Site N). m.shape)
      (cond b (site x.shape ∷ shapes_where t (lifts xs)) (shapes_where t (lifts xs))) ≡ cond b (x.shape ∷ shapes_where u xs) (shapes_where u xs)) [
        | true ↦ ap (λ l. x.shape ∷ l) rest
        | false ↦ rest
      ] ∙ ap (λ b. cond b (x.shape ∷ shapes_where u xs) (shapes_where u xs)) (agree x.shape x.kind (inl (refl, refl)))

  -- the outcome at a stamp is the same, with the ancestors' priorities
  outcome-lifts : (n : N) (k : Kind F P) → Has list n k
      → order.outcome_at W (lifts list) (site n) ≡ all_sited (chain_of derivation (site n)).priorities
      (outcome_at derivation list n)
  outcome-lifts n k h =
      let at = ap (stamp derivation.mode) (site-chain n k h) in
      let exists = shapes-lifts (order.exists_at W (site n)) (exists_at derivation list n) list
      (λ m j g. λ i. is_lt (stamps_cmp derivation.mode (birth derivation.mode (site-chain m j g i)) (at i))) in
      let waits = shapes-lifts (order.waits_at W (site n)) (waits_at derivation list n) list
      (λ m j g. λ i. (is_lt (stamps_cmp derivation.mode (birth derivation.mode (site-chain m j g i)) (at i))
      && not (is_instance j)) && is_lt (stamps_cmp derivation.mode (at i) (stamp derivation.mode (site-chain m j g i)))) in
      λ i. all_sited (chain_of derivation (site n)).priorities (derivation.expand n (derivation.answers n (exists i) (waits i)))

  -- a child that the outcome made has its parent's chain above it
  child-site : (n : N) (k : Kind F P) → Has list n k → (a : A) (cs : List (Placed N F P))
      → derivation.expand n a ≡ Ok cs → (c : N) (j : Kind F P) → Has cs c j
      → site c ≡ record { shape = c; above = (chain_of derivation (site n)).priorities }
  child-site n k h a cs e c j g =
      let w = Has-index cs c j g in
      let law = laws.child n a cs e w.0 w.1 w.2 in
      let lot : derivation.lot c ≡ derivation.lot n = ap derivation.lot (sym w.3) ∙ law.0 in
      let path : derivation.path c ≡ derivation.path n ++ w.0 ∷ [] = ap derivation.path (sym w.3) ∙ law.1 in
      let long : length (derivation.path c) ≡ suc (length (derivation.path n)) = ap length path ∙ (length-append (derivation.path n) (w.0 ∷ []) ∙ omega arith) in
      let same = down-same (derivation.lot n) (derivation.path n) w.0 (suc (length (derivation.path n))) (omega arith) in
      let above : down (derivation.lot c) (derivation.path c) (length (derivation.path c)) ≡ (chain_of derivation (site n)).priorities =
      (λ t. down (lot t) (path t) (long t)) ∙ (same ∙ ap (λ (x : Chain). x.priorities) (sym (site-chain n k h))) in
      ap (λ l. record { shape = c; above = l }) above

  root-site : (r : N) → derivation.path r ≡ [] → site r ≡ record { shape = r; above = [] }
  root-site r e = ap (λ p. record { shape = r; above = down (derivation.lot r) (derivation.path r) (length p) }) e

  stands-lifts : (c : N) (k : Kind F P) → Stands list c k → Stands (lifts list) (site c) k
  stands-lifts c k s = (s.0, Has-lifts list c s.0 s.1, s.2, s.3)

  has-outcome : (n : N) (k : Kind F P) → Has list n k → (r : Result (List (Placed N F P)) F)
      → outcome_at derivation list n ≡ r → HasOutcome list k r
      → HasOutcome (lifts list) k (all_sited (chain_of derivation (site n)).priorities r)
  has-outcome n k h (Ok cs) e p = (
    p.0,
    λ c j g.
        let w = sited-Has (chain_of derivation (site n)).priorities cs c j g in
        let is : site c.shape ≡ c = child-site n k h _ cs e c.shape j w.0 ∙ ap (λ l. record { shape = c.shape; above = l }) (sym w.1) in
        subst (λ x. Stands (lifts list) x j) is (stands-lifts c.shape j (p.1 c.shape j w.0)),
  )
  has-outcome n k h (Err f) e p = p

  pub consistent : order.IsConsistent W None (lifts list)
  consistent = record {
    distinct = λ s t k j h g same.
        let a = lifts-Has list s k h in
        let b = lifts-Has list t j g in
        let one = one_place s.shape t.shape k j a.0 b.0 same in
        (a.1 ∙ (ap site one.0 ∙ sym b.1), one.1);
    roots = λ s h.
        let a = Among-rooted derivation.roots s h in
        subst (λ x. Stands (lifts list) x Waiting) (root-site s.shape (laws.root s.shape a.0) ∙ sym a.1) (stands-lifts s.shape Waiting (good.roots s.shape a.0));
    each = λ s k h x b.
        let a = lifts-Has list s k h in
        subst (λ y. HasOutcome (lifts list) k (order.outcome_at W (lifts list) y)) (sym a.1)
        (subst (HasOutcome (lifts list) k) (sym (outcome-lifts s.shape k a.0))
        (has-outcome s.shape k a.0 (outcome_at derivation list s.shape) refl (good.each s.shape k a.0 x)));
    only = λ s k h b.
        let a = lifts-Has list s k h in
        elim (good.only s.shape k a.0) [
          | inl root ↦ inl (subst (λ x. Among x W.roots) (sym (a.1 ∙ root-site s.shape (laws.root s.shape root))) (rooted-Among derivation.roots s.shape root))
          | inr made ↦
              let ps = (chain_of derivation (site made.0)).priorities in
              let is : record { shape = s.shape; above = ps } ≡ s = sym (child-site made.0 Done made.2 _ made.1 made.3 s.shape made.4.0 made.4.1) ∙ sym a.1 in
              inr (
                site made.0,
                map (sited ps) made.1,
                Has-lifts list made.0 Done made.2,
                outcome-lifts made.0 Done
                    made.2 ∙ ap (all_sited ps) made.3,
                (made.4.0, subst (λ x. Has (map (sited ps) made.1) x made.4.0) is (Has-sited ps made.1 s.shape made.4.0 made.4.1)),
              )
        ];
  }

  -- it has the members of the derivation, whatever order it stands in
  pub unique : (n : ℕ) → NothingWaits derivation (reached derivation n) → SameMembers list (reached derivation n)
  unique n settled x k =
      let same = same_members W (world derivation laws) (lifts list) consistent (taken derivation n)
      (sites derivation n) (reached-sites derivation n)
      (λ w h b. settled w.shape (subst (λ l. Has l w.shape Waiting) (erase-sites derivation n) (Has-erase (sites derivation n) w Waiting h))) in (
        λ h. subst (λ l. Has l x k) (erase-sites derivation n) (Has-erase (sites derivation n) (site x) k ((same (site x) k).0 (Has-lifts list x k h))),
        λ h.
            let w = Has-erased (sites derivation n) x k (subst (λ l. Has l x k) (sym (erase-sites derivation n)) h) in
            subst (λ y. Has list y k) w.2 (lifts-Has list w.0 k ((same w.0 k).1 w.1)).0,
      )
