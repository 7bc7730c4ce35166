-- No two members of a configuration stand at one place.
use Rattle.std.proofs.Common.{◌≡◌, ℕ, zero, suc, ◌+◌, List, [], ◌∷◌, ◌++◌, length, refl, sym, ap, ◌∙◌, subst, inl, inr, Option, Some, None, arith, length-append}
use Rattle.std.specs.Prelude.{slice_get}
use Rattle.cga_order.specs.declared.placed.Placed.{Placed}
use Rattle.cga_order.specs.declared.placed.Kind.{Kind}
use Rattle.cga_order.specs.declared.placed.Kind.TheVariants.{Waiting, Done}
use Rattle.cga_order.specs.World.{Has}
use Rattle.cga_order.specs.Run as run
use Rattle.cga_order.proofs.Door as steps
use Rattle.cga_order.proofs.Door.{slice_get-map, snoc-same}
use Rattle.cga_derivation.specs.Derivation.{Derivation, IsDerivation, place_of, reached, AllApart}
use Rattle.cga_derivation.specs.Sites.{Site, erased, erase, chain_of, world_of, next_site, step_sites_by, sites, taken, SitesApart}
use Rattle.cga_derivation.proofs.Sites.{world}
use Rattle.cga_derivation.proofs.Along.{IsStep-next, reached-sites, erase-sites}

module _ {N A F P : Type 0} (derivation : Derivation N A F P) where
  abbrev Members : Type 0
  Members = List (Placed (Site N) F P)

  module _ (laws : IsDerivation derivation) where
    pub apart-start : SitesApart derivation (run.start (world_of derivation))
    apart-start i j m n e f same =
        let a = slice_get-map (λ (s : Site N). record { shape = s; kind = Waiting }) (world_of derivation).roots i m e in
        let b = slice_get-map (λ (s : Site N). record { shape = s; kind = Waiting }) (world_of derivation).roots j n f in
        let c = slice_get-map (λ (r : N). record { shape = r; above = [] }) derivation.roots i a.0 a.1 in
        let d = slice_get-map (λ (r : N). record { shape = r; above = [] }) derivation.roots j b.0 b.1 in
        let shape-m : c.0 ≡ m.shape.shape = ap (λ (s : Site N). s.shape) c.2 ∙ ap (λ (x : Placed (Site N) F P). x.shape.shape) a.2 in
        let shape-n : d.0 ≡ n.shape.shape = ap (λ (s : Site N). s.shape) d.2 ∙ ap (λ (x : Placed (Site N) F P). x.shape.shape) b.2 in
        laws.roots_apart i j c.0 d.0 c.1 d.1 (ap (place_of derivation) shape-m ∙ (same ∙ sym (ap (place_of derivation) shape-n)))

    child-Has : (C : Members) (s : Site N) (i : ℕ) (m : Placed (Site N) F P) → slice_get C i ≡ Some m
        → Has C m.shape m.kind
    child-Has C s i m e = steps.slice_get-Has C i m e

    module _ (C D : Members) (s : Site N) (good : steps.IsOrdered (world_of derivation) C) (step : run.IsStep (world_of derivation) C D s) where
      -- a child of s does not stand where a member stood
      no_child : (m : Site N) (k : Kind F P) (n : Site N) (i : ℕ) → Has C m k
          → (chain_of derivation n).lot ≡ (chain_of derivation s).lot
          → (chain_of derivation n).path ≡ (chain_of derivation s).path ++ i ∷ []
          → place_of derivation n.shape ≡ place_of derivation m.shape → ⊥
      no_child m k n i h lot path same =
          let at : derivation.path m.shape ≡ derivation.path s.shape ++ i ∷ [] = ap (λ p. p.1) (sym same) ∙ path in
          elim (good.under m k h) [
            | inl t ↦
                let size : 0 ≡ length (derivation.path s.shape) + 1 = ap length (sym t ∙ at) ∙ length-append (derivation.path s.shape) (i ∷ []) in
                absurd (omega (arith, size))
            | inr u ↦
                let above = (snoc-same (derivation.path u.0.shape) (derivation.path s.shape) u.1 i (sym u.3.path ∙ at)).0 in
                let lots : derivation.lot u.0.shape ≡ derivation.lot s.shape = sym u.3.lot ∙ (ap (λ p. p.0) (sym same) ∙ lot) in
                let kinds : ◌≡◌ {A = Kind F P} Done Waiting = (good.distinct u.0 s Done Waiting u.2 step.waits (λ j. (lots j, above j))).1 in
                cc
          ]

      apart-next : SitesApart derivation C → SitesApart derivation D
      apart-next apart i j m n e f same =
          elim (steps.created_from (world_of derivation) (world derivation laws) C D s good step i m e) [
            | inl a ↦ elim (steps.created_from (world_of derivation) (world derivation laws) C D s good step j n f) [
              | inl b ↦
                  let p : place_of derivation a.1.0.shape.shape ≡ place_of derivation m.shape.shape = ap (λ (x : Site N). place_of derivation x.shape) a.1.2 in
                  let q : place_of derivation b.1.0.shape.shape ≡ place_of derivation n.shape.shape = ap (λ (x : Site N). place_of derivation x.shape) b.1.2 in
                  apart i j a.1.0 b.1.0 a.1.1 b.1.1 (p ∙ (same ∙ sym q))
              | inr b ↦
                  absurd (no_child a.1.0.shape a.1.0.kind n.shape b.0 (child-Has C s i a.1.0 a.1.1) b.2.lot b.2.path (sym same ∙ sym (ap (λ (x : Site N). place_of derivation x.shape) a.1.2)))
            ]
            | inr a ↦ elim (steps.created_from (world_of derivation) (world derivation laws) C D s good step j n f) [
              | inl b ↦
                  absurd (no_child b.1.0.shape b.1.0.kind m.shape a.0 (child-Has C s j b.1.0 b.1.1) a.2.lot a.2.path (same ∙ sym (ap (λ (x : Site N). place_of derivation x.shape) b.1.2)))
              | inr b ↦
                  let index : a.0 ≡ b.0 = (snoc-same _ _ a.0 b.0 (sym a.2.path ∙ (ap (λ p. p.1) same ∙ b.2.path))).1 in
                  a.1 ∙ (ap (λ k. length C + k) index ∙ sym b.1)
            ]
          ]

    apart-by : (n : ℕ) (o : Option (Placed (Site N) F P)) → next_site derivation (sites derivation n) ≡ o
        → SitesApart derivation (sites derivation n)
        → SitesApart derivation (step_sites_by derivation (sites derivation n) o)
    apart-by n None e apart = apart
    apart-by n (Some m) e apart =
        apart-next (sites derivation n) _ m.shape (steps.in_order (world_of derivation) (world derivation laws)
        (taken derivation n) (sites derivation n) (reached-sites derivation n)) (IsStep-next derivation (sites derivation n) m e) apart

    pub apart-sites : (n : ℕ) → SitesApart derivation (sites derivation n)
    unfolding sites
    apart-sites zero = apart-start
    apart-sites (suc n) = apart-by n (next_site derivation (sites derivation n)) refl (apart-sites n)

    -- what is apart with the ancestors' priorities is apart without them
    apart-erase : (C : Members) → SitesApart derivation C → AllApart derivation (erase C)
    apart-erase C apart i j m n e f same =
        let a = slice_get-map (λ (x : Placed (Site N) F P). erased x) C i m e in
        let b = slice_get-map (λ (x : Placed (Site N) F P). erased x) C j n f in
        let p : place_of derivation a.0.shape.shape ≡ place_of derivation m.shape = ap (λ (x : Placed N F P). place_of derivation x.shape) a.2 in
        let q : place_of derivation b.0.shape.shape ≡ place_of derivation n.shape = ap (λ (x : Placed N F P). place_of derivation x.shape) b.2 in
        apart i j a.0 b.0 a.1 b.1 (p ∙ (same ∙ sym q))

    -- after any number of steps, members at two indices stand at two places
    pub apart-reached : (n : ℕ) → AllApart derivation (reached derivation n)
    apart-reached n = subst (AllApart derivation) (erase-sites derivation n) (apart-erase (sites derivation n) (apart-sites n))
