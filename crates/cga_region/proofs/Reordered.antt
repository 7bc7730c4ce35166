-- The order of lots doesn't matter to what they come to: one job has them all.
use Rattle.std.proofs.Common.{◌≡◌, List, [], ◌∷◌, inl, inr, refl, sym, ◌∙◌, subst}
use Rattle.std.specs.Prelude.{◌↔◌}
use Rattle.std.proofs.lemmas.List.{append-nil}
use Rattle.cga_derivation.proofs.Door.{one}
use Rattle.cga_derivation.specs.Derivation.{IsDerived}
use Rattle.cga_region.proofs.Hulls.{lot_among}
use Rattle.cga_region.specs.TownJobs.{AreJobsOf, AreSettled, HasTheirs, HaveAlike, JobsAreTheTown, LotJob, lots_of}
use Rattle.cga_region.specs.TownParts.{ArePartsOf}
use Rattle.cga_region.specs.Towns.{with_lots}
use Rattle.cga_expand.proofs.Door.{sources_are_derivations}
use Rattle.cga_expand.specs.Children.{Member}
use Rattle.cga_expand.specs.Derivation.{derivation_of, NamesDiffer}
use Rattle.cga_order.specs.Consistent.{SameMembers}
use Rattle.cga_order.specs.World.{Among}
use Rattle.cga_shape.specs.declared.lot.Lot.{Lot}
use Rattle.cga_shape.specs.declared.sources.Sources.{Sources}

module _ (town : JobsAreTheTown) (sources : Sources) (lots others : List Lot) (differ : NamesDiffer lots)
    (other_differ : NamesDiffer others) (same : (x : Lot) → Among x others ↔ Among x lots) (xs ys : List Member)
    (derived : IsDerived (derivation_of (with_lots sources lots)) xs) (other_derived : IsDerived (derivation_of (with_lots sources others)) ys) where
  part : ArePartsOf (with_lots sources others) (lots ∷ [])
  part = record {
    same = λ x. subst (λ (list : List Lot). Among x others ↔ Among x list) (sym (append-nil lots)) (same x);
    differ = subst NamesDiffer (sym (append-nil lots)) differ;
  }

  abbrev only : LotJob
  only = record { own = lots; ring = []; members = xs }

  is_only : (job : LotJob) → Among job (only ∷ []) → only ≡ job
  is_only job j = elim j [ inl e ↦ e | inr r ↦ absurd r ]

  are : AreJobsOf (with_lots sources others) (only ∷ [])
  are = record {
    parts = part;
    rings = λ job x j h. absurd (subst (λ (it : LotJob). Among x it.ring) (sym (is_only job j)) h);
    differ = λ job j. subst (λ (it : LotJob). NamesDiffer (lots_of it)) (is_only job j) (subst NamesDiffer (sym (append-nil lots)) differ);
    derived = λ job j. subst (λ (it : LotJob). IsDerived (derivation_of (with_lots sources (lots_of it))) it.members) (is_only job j)
        (subst (λ (ls : List Lot). IsDerived (derivation_of (with_lots sources ls)) xs) (sym (append-nil lots)) derived);
  }

  settled : AreSettled sources.grammar (only ∷ [])
  settled job other x y j o h g = inl (subst (λ (it : LotJob). HaveAlike y.name job.members it.members) (sym (is_only job j) ∙ is_only other o) (λ n k e. ((λ i. i), (λ i. i))))

  -- the same lots, in whatever order, come to the same members
  pub reordered : SameMembers xs ys
  reordered n k =
      let all = with_lots sources others in
      let w = town all other_differ (only ∷ []) are settled in
      let is : w.0 ≡ ys = one (derivation_of all) (sources_are_derivations all other_differ) w.0 ys w.1 other_derived in
      let theirs : HasTheirs (only ∷ []) ys = subst (HasTheirs (only ∷ [])) is w.4 in (
        (λ h. let x = lot_among sources lots differ xs derived n k h in (theirs only x.0 (inl refl) x.1 n k x.2).1 h),
        (λ h. let x = lot_among sources others other_differ ys other_derived n k h in (theirs only x.0 (inl refl) ((same x.0).0 x.1) n k x.2).0 h),
      )
