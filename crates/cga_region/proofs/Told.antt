-- Jobs that tell the same of what they see are settled.
use Rattle.std.proofs.Common.{◌≡◌, ℕ, List, false, sym, ap, ◌∙◌, subst, inl, inr}
use Rattle.cga_word.specs.declared.primitive.Primitive.{Primitive}
use Rattle.cga_frame.specs.Box.{touches}
use Rattle.cga_order.specs.World.{Among, Has}
use Rattle.cga_order.specs.declared.placed.Kind.{Kind}
use Rattle.cga_shape.specs.declared.lot.Lot.{Lot}
use Rattle.cga_shape.specs.declared.shape.Shape.{Shape}
use Rattle.cga_shape.specs.declared.shape_fault.ShapeFault.{ShapeFault}
use Rattle.cga_shape.specs.declared.sources.Sources.{Sources}
use Rattle.cga_expand.specs.Derivation.{NamesDiffer}
use Rattle.cga_region.specs.TownJobs.{AreJobsOf, HaveAlike, IsSettled, LotJob, LotMeetsNone, lots_of}
use Rattle.cga_region.specs.Told.{AgreeOn, HaveSameSteps, IsToldOf, Told, ToldIsSettled}
use Rattle.cga_region.specs.Towns.{with_lots}
use Rattle.cga_region.proofs.Hulls.{far_second, lot_among}
use Rattle.cga_region.proofs.TownJobs.{of_town, one_lot}
use Rattle.cga_order.proofs.Door.{Among-left}
use Rattle.cga_region.proofs.Steps.{IsEnded, lot_there}

module _ (sources : Sources) (differ : NamesDiffer sources.lots) (jobs : List LotJob) (are : AreJobsOf sources jobs) where
  ended : (job : LotJob) (told : Told) → Among job jobs → IsToldOf sources job told
      → IsEnded (with_lots sources (lots_of job)) job.members told.steps
  ended job told j is = record { differ = are.differ job j; ends = are.derived job j; run = is.run }

  -- what two runs have the same steps of was derived alike
  by_steps : (job other : LotJob) (told seen : Told) → Among job jobs → Among other jobs → IsToldOf sources job told
      → IsToldOf sources other seen → (y : Lot) → Among y (lots_of job) → Among y (lots_of other)
      → HaveSameSteps y.name told.steps seen.steps → HaveAlike y.name job.members other.members
  by_steps job other told seen j o is also y too there same n k e =
      let one = ended job told j is in
      let two = ended other seen o also in (
        lot_there sources (lots_of job) (lots_of other) job.members other.members told.steps seen.steps y too there one two
            (λ t f h. (same t f).0 h) n k e,
        lot_there sources (lots_of other) (lots_of job) other.members job.members seen.steps told.steps y there too two one
            (λ t f h. (same t f).1 h) n k e,
      )

  -- where the boxes of two lots don't touch, no shape of the one meets one of the other
  off : (job other : LotJob) (told seen : Told) (x y : List ℕ) → IsToldOf sources job told → IsToldOf sources other seen
      → ((m : Shape) (i : Kind ShapeFault Primitive) → Has other.members m i → m.lot ≡ y
      → touches (told.hull x) (seen.hull y) ≡ false)
      → LotMeetsNone sources.grammar x y job.members other.members
  off job other told seen x y is also far n m k i target h e plain asks g f =
      let lots = ap (λ (l : List ℕ). touches (told.hull l) (seen.hull m.lot)) e ∙ ap (λ (l : List ℕ). touches (told.hull x) (seen.hull l)) f in
      far_second (seen.hull m.lot) (told.hull n.lot) m.scope n.scope (also.held m i g) (is.held n k h) (lots ∙ far m i g f)

  -- a job's lot of the name of one of the town is that one
  derived_too : (job : LotJob) → Among job jobs → (y : Lot) → Among y sources.lots → (m : Shape)
      (i : Kind ShapeFault Primitive) → Has job.members m i → m.lot ≡ y.name → Among y (lots_of job)
  derived_too job j y town m i g f =
      let z = lot_among sources (lots_of job) (are.differ job j) job.members (are.derived job j) m i g in
      let same = one_lot sources.lots differ z.0 y (of_town sources differ jobs are job j z.0 z.1) town (sym z.2 ∙ f) in
      subst (λ (l : Lot). Among l (lots_of job)) same z.1

  settled : (job other : LotJob) (told seen : Told) (x y : Lot) → Among job jobs → Among other jobs
      → IsToldOf sources job told → IsToldOf sources other seen → Among y other.own → AgreeOn job told seen x y
      → IsSettled sources.grammar job other x y
  settled job other told seen x y j o is also own (inl (too, same)) =
      inl (by_steps job other told seen j o is also y too (Among-left other.own other.ring y own) same)
  settled job other told seen x y j o is also own (inr (far, near)) =
      let town = of_town sources differ jobs are other o y (Among-left other.own other.ring y own) in
      inr (
        off job job told told x.name y.name is is (λ m i g f. near (derived_too job j y town m i g f)),
        off job other told seen x.name y.name is also (λ m i g f. far),
      )

pub told_is_settled : ToldIsSettled
told_is_settled sources differ jobs are tell told agree job other x y j o h g =
    settled sources differ jobs are job other (tell job) (tell other) x y j o (told job j) (told other o) g
    (agree job other x y j o h g)
