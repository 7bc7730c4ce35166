-- The stamps that are told from the list are those of the world.
use Rattle.std.proofs.Common.{◌≡◌, ℕ, zero, suc, ◌+◌, ◌≤◌, List, [], ◌∷◌, ◌++◌, length, take, map, true, refl, sym, ap, ◌∙◌, subst, inl, inr, Option, Some, None, arith, length-append}
use Rattle.std.proofs.Math.Seq.{take-length}
use Rattle.std.proofs.lemmas.List.{take-append-le}
use lib.Pointwise.{bytes_decides}
use Rattle.cga_order.specs.Stamp.{stamp, birth, stamps_cmp}
use Rattle.cga_order.specs.declared.placed.Placed.{Placed}
use Rattle.cga_order.specs.declared.placed.Kind.{Kind}
use Rattle.cga_order.specs.World.{Has, Among}
use Rattle.cga_order.specs.Run as run
use Rattle.cga_order.proofs.Door as steps
use Rattle.cga_order.proofs.Door.{slice_get-Has, slice_get-map, snoc-same, stands-reached}
use Rattle.cga_derivation.specs.Derivation.{Derivation, IsDerivation, next_of, reached, taken_next, expanded}
use Rattle.cga_derivation.specs.Sites.{Site, erased, erase, fitted, chain_of, world_of, next_site, sites, taken, taken_by}
use Rattle.cga_derivation.specs.Stamps.{stands_at, priority_found, priority_at, priorities_down, chain_in, stamp_in, birth_in, StandsInOrder, AllEarlier, RisesIn, IsEarlier}
use Rattle.cga_derivation.proofs.Sites.{world}
use Rattle.cga_derivation.proofs.Along.{both, Has-erase, next-along, erase-sites, reached-sites, option_of, length-map}
use Rattle.cga_derivation.proofs.Least.{both_make, first_of-only, Has-erased}

module _ {N A F P : Type 0} (derivation : Derivation N A F P) where
  abbrev Members : Type 0
  Members = List (Placed (Site N) F P)

  module _ (C : Members) (good : steps.IsOrdered (world_of derivation) C) where
    -- the member at a place is found
    priority-here : (s : Site N) (k : Kind F P) → Has C s k
        → priority_at derivation (erase C) (derivation.lot s.shape) (derivation.path s.shape) ≡ derivation.priority
        s.shape
    priority-here s k h =
        let p = stands_at derivation (derivation.lot s.shape) (derivation.path s.shape) in
        let m : Placed N F P = record { shape = s.shape; kind = k } in
        let here : p m ≡ true = both_make _ _ ((bytes_decides (derivation.lot s.shape) (derivation.lot s.shape)).1 refl) ((bytes_decides (derivation.path s.shape) (derivation.path s.shape)).1 refl) in
        ap (priority_found derivation) (first_of-only p (erase C) m (Has-erase C s k h) here (λ n j g e. only n j g e))
      where
        only : (n : N) (j : Kind F P) → Has (erase C) n j
            → stands_at derivation (derivation.lot s.shape) (derivation.path s.shape) (record { shape = n; kind = j })
            ≡ true
            → (n ≡ s.shape) × (j ≡ k)
        only n j g e =
            let parts = both _ _ e in
            let w = Has-erased C n j g in
            let lot : derivation.lot w.0.shape ≡ derivation.lot s.shape = ap derivation.lot w.2 ∙ (bytes_decides (derivation.lot n) (derivation.lot s.shape)).0 parts.0 in
            let path : derivation.path w.0.shape ≡ derivation.path s.shape = ap derivation.path w.2 ∙ (bytes_decides (derivation.path n) (derivation.path s.shape)).0 parts.1 in
            let one = good.distinct w.0 s j k w.1 h (λ i. (lot i, path i)) in
            (sym w.2 ∙ ap (λ (x : Site N). x.shape) one.0, one.1)

    down-same : (lot p : List ℕ) (i d : ℕ) → d ≤ length p + 1
        → priorities_down derivation (erase C) lot (p ++ i ∷ []) d ≡ priorities_down derivation (erase C) lot p d
    down-same lot p i zero h = refl
    down-same lot p i (suc d) h =
        let front : take d (p ++ i ∷ []) ≡ take d p = take-append-le d p (i ∷ []) (omega (arith, h)) in
        λ t. down-same lot p i d (omega (arith, h)) t ++ priority_at derivation (erase C) lot (front t) ∷ []

    -- the own priority stands behind those of the ancestors
    down-last : (s : Site N) (k : Kind F P) → Has C s k
        → priorities_down derivation (erase C) (derivation.lot s.shape) (derivation.path s.shape)
        (suc (length (derivation.path s.shape))) ≡ priorities_down derivation (erase C) (derivation.lot s.shape)
        (derivation.path s.shape) (length (derivation.path s.shape)) ++ derivation.priority s.shape ∷ []
    down-last s k h =
        let own : priority_at derivation (erase C) (derivation.lot s.shape)
        (take (length (derivation.path s.shape)) (derivation.path s.shape)) ≡ derivation.priority
        s.shape = ap (priority_at derivation (erase C) (derivation.lot s.shape)) (take-length (derivation.path s.shape)) ∙ priority-here s k h in
        ap (λ p. priorities_down derivation (erase C) (derivation.lot s.shape) (derivation.path s.shape) (length (derivation.path s.shape)) ++ p ∷ []) own

    above-is : (size : ℕ) (s : Site N) (k : Kind F P) → Has C s k → length (derivation.path s.shape) ≡ size
        → fitted (length (derivation.path s.shape)) s.above ≡ priorities_down derivation (erase C)
        (derivation.lot s.shape) (derivation.path s.shape) (length (derivation.path s.shape))
    above-is zero s k h e = ap (λ n. fitted n s.above) e ∙ sym (ap (priorities_down derivation (erase C) (derivation.lot s.shape) (derivation.path s.shape)) e)
    above-is (suc size) s k h e = elim (good.under s k h) [
      | inl root ↦ let z : 0 ≡ suc size = sym (ap length root) ∙ e in absurd (omega (arith, z))
      | inr u ↦
          let parent = u.0 in
          let long : length (derivation.path s.shape) ≡ suc (length (derivation.path parent.shape)) = ap length u.3.path ∙ (length-append (derivation.path parent.shape) (u.1 ∷ []) ∙ omega arith) in
          let front : fitted (length (derivation.path s.shape)) s.above
          ≡ (chain_of derivation parent).priorities = (snoc-same
          (fitted (length (derivation.path s.shape)) s.above) (chain_of derivation parent).priorities
          (derivation.priority s.shape) u.3.priorities.0 u.3.priorities.1).0 in
          let known = above-is size parent _ u.2 (omega (arith, long, e)) in
          let whole : (chain_of derivation parent).priorities ≡ priorities_down derivation (erase C)
          (derivation.lot parent.shape) (derivation.path parent.shape) (suc (length (derivation.path parent.shape))) =
          ap (λ ps. ps ++ derivation.priority parent.shape ∷ []) known ∙ sym (down-last parent _ u.2) in
          let same = down-same (derivation.lot parent.shape) (derivation.path parent.shape) u.1 (suc (length (derivation.path parent.shape))) (omega arith) in
          front ∙ (whole ∙ (sym same ∙ (λ t. priorities_down derivation (erase C) (sym u.3.lot t) (sym u.3.path t) (sym long t))))
    ]

    -- in a configuration in order, a site's chain is the one that is told from the erased list
    pub chain-is : (s : Site N) (k : Kind F P) → Has C s k
        → chain_of derivation s ≡ chain_in derivation (erase C) s.shape
    chain-is s k h =
        let ps = ap (λ l. l ++ derivation.priority s.shape ∷ []) (above-is (length (derivation.path s.shape)) s k h refl) ∙ sym (down-last s k h) in
        λ t. record { lot = derivation.lot s.shape; path = derivation.path s.shape; priorities = ps t }

    rises-in : (ss : List (Site N)) → ((t : Site N) → Among t ss → (k : Kind F P) × Has C t k)
        → run.Rises (world_of derivation) ss → RisesIn derivation (erase C) (map (λ t. t.shape) ss)
    rises-in [] there rises = tt
    rises-in (s ∷ ss) there rises = (all ss (λ t i. there t (inr i)) rises.0, rises-in ss (λ t i. there t (inr i)) rises.1)
      where
        all : (ts : List (Site N)) → ((t : Site N) → Among t ts → (k : Kind F P) × Has C t k)
            → run.AllEarlier (world_of derivation) s ts
            → AllEarlier derivation (erase C) s.shape (map (λ t. t.shape) ts)
        all [] in_list h = tt
        all (t ∷ ts) in_list h =
            let a = in_list t (inl refl) in
            let b = there s (inl refl) in (
              subst (λ c. IsEarlier derivation (stamp derivation.mode c) (stamp_in derivation (erase C) s.shape))
                  (chain-is t a.0 a.1) (subst (λ c. IsEarlier derivation
                  (stamp derivation.mode (chain_of derivation t)) (stamp derivation.mode c)) (chain-is s b.0 b.1) h.0),
              all ts (λ u i. in_list u (inr i)) h.1,
            )

  module _ (laws : IsDerivation derivation) where
    -- after any number of steps the sites are in order
    pub good-at : (n : ℕ) → steps.IsOrdered (world_of derivation) (sites derivation n)
    good-at n = steps.in_order (world_of derivation) (world derivation laws) (taken derivation n) (sites derivation n) (reached-sites derivation n)

    taken-shapes : (n : ℕ) → map (λ t. t.shape) (taken derivation n) ≡ expanded derivation n
    unfolding taken expanded
    taken-shapes zero = refl
    taken-shapes (suc n) =
        let found : next_of derivation (reached derivation n) ≡ option_of erased
        (next_site derivation (sites derivation n)) = ap (next_of derivation) (sym (erase-sites derivation n))
        ∙ next-along derivation (sites derivation n) in
        by (next_site derivation (sites derivation n)) ∙ ((λ i. taken_next derivation (sym found i) (taken-shapes n i)))
      where
        by : (o : Option (Placed (Site N) F P))
            → map (λ (t : Site N). t.shape) (taken_by derivation o (taken derivation n)) ≡ taken_next derivation
            (option_of erased o) (map (λ (t : Site N). t.shape) (taken derivation n))
        by None = refl
        by (Some m) = refl

    -- shapes are expanded by strictly rising stamps
    pub rises : (n : ℕ) → RisesIn derivation (reached derivation n) (expanded derivation n)
    rises n =
        let C = sites derivation n in
        let made = rises-in C (good-at n) (taken derivation n)
        (λ t i. let w = steps.taken_done (world_of derivation) (world derivation laws) (taken derivation n) C
        (reached-sites derivation n) t i in (w.0, w.1))
        (steps.rises (world_of derivation) (world derivation laws) (taken derivation n) C (reached-sites derivation n)) in
        subst (λ l. RisesIn derivation l (expanded derivation n)) (erase-sites derivation n) (subst (RisesIn derivation (erase C)) (taken-shapes n) made)

    stands-erased : (C : Members) → steps.IsOrdered (world_of derivation) C → run.StandsByBirth (world_of derivation) C
        → StandsInOrder derivation (erase C)
    stands-erased C good order i j m n e f lt past =
        let a = slice_get-map (λ (x : Placed (Site N) F P). erased x) C i m e in
        let b = slice_get-map (λ (x : Placed (Site N) F P). erased x) C j n f in
        let roots : length (world_of derivation).roots ≤ j = subst (λ l. l ≤ j) (sym (length-map (λ (r : N). record { shape = r; above = [] }) derivation.roots)) past in
        let is-m : a.0.shape.shape ≡ m.shape = ap (λ (x : Placed N F P). x.shape) a.2 in
        let is-n : b.0.shape.shape ≡ n.shape = ap (λ (x : Placed N F P). x.shape) b.2 in
        elim (order i j a.0 b.0 a.1 b.1 lt roots) [
          | inl before ↦
              let p = ap (birth derivation.mode) (chain-is C good a.0.shape a.0.kind (slice_get-Has C i a.0 a.1)) ∙ ap (birth_in derivation (erase C)) is-m in
              let q = ap (birth derivation.mode) (chain-is C good b.0.shape b.0.kind (slice_get-Has C j b.0 b.1)) ∙ ap (birth_in derivation (erase C)) is-n in
              inl (sym (λ t. stamps_cmp derivation.mode (p t) (q t)) ∙ before)
          | inr u ↦ inr (
            derivation.path u.0.shape,
            u.1,
            u.2,
            ap derivation.lot (sym is-m) ∙ (u.3.lot ∙ (sym u.4.lot ∙ ap derivation.lot is-n)),
            ap derivation.path (sym is-m) ∙ u.3.path,
            ap derivation.path (sym is-n) ∙ u.4.path,
            u.5,
          )
        ]

    -- the members after the roots stand by their parents' stamps, and then by their indices
    pub in_order : (n : ℕ) → StandsInOrder derivation (reached derivation n)
    in_order n = subst (StandsInOrder derivation) (erase-sites derivation n)
        (stands-erased (sites derivation n) (good-at n)
        (stands-reached (world_of derivation) (world derivation laws) (taken derivation n) (sites derivation n) (reached-sites derivation n)))
