-- What jobs tell, and by what of it they are known to be settled.
use Rattle.std.specs.Prelude.{◌≡◌, ◌↔◌, ℕ, List, false, ◌⊎◌}
use Rattle.cga_frame.specs.Box.{Box, touches}
use Rattle.cga_order.specs.World.{Among}
use Rattle.cga_shape.specs.declared.lot.Lot.{Lot}
use Rattle.cga_shape.specs.declared.sources.Sources.{Sources}
use Rattle.cga_shape.specs.declared.trace_step.TraceStep.{TraceStep}
use Rattle.cga_expand.specs.Derivation.{NamesDiffer}
use Rattle.cga_expand.specs.Run.{IsRun}
use Rattle.cga_region.specs.Hulls.{AreHeld}
use Rattle.cga_region.specs.TownJobs.{AreJobsOf, AreSettled, LotJob, lots_of}
use Rattle.cga_region.specs.Towns.{with_lots}

-- the boxes of a job's lots, and the steps of its run
pub record Told : Type 0 where
  pub hull : List ℕ → Box
  pub steps : List TraceStep

-- the boxes hold the shapes that the job derived, and the steps are those by which it did
pub record IsToldOf (sources : Sources) (job : LotJob) (told : Told) : Type 0 where
  pub held : AreHeld told.hull job.members
  pub run : IsRun (with_lots sources (lots_of job)) told.steps

-- of this lot both have the same steps, in whatever order
abbrev pub HaveSameSteps : List ℕ → List TraceStep → List TraceStep → Type 0
HaveSameSteps lot steps turns = (t : TraceStep) → t.lot ≡ lot → Among t steps ↔ Among t turns

-- of a lot of the first job and one of the second: the first job derived the second lot, too, and by the same steps; or
-- the second lot's box doesn't touch that of the first, neither as the second job tells it nor as the first one does
abbrev pub AgreeOn : LotJob → Told → Told → Lot → Lot → Type 0
AgreeOn job told other x y =
    (Among y (lots_of job) × HaveSameSteps y.name told.steps other.steps)
    ⊎ ((touches (told.hull x.name) (other.hull y.name) ≡ false)
    × (Among y (lots_of job) → touches (told.hull x.name) (told.hull y.name) ≡ false))

-- so for each lot that a job answers for and each that a job does
abbrev pub AllAgree : List LotJob → (LotJob → Told) → Type 0
AllAgree jobs tell =
    (job other : LotJob) (x y : Lot) → Among job jobs → Among other jobs → Among x job.own → Among y other.own
    → AgreeOn job (tell job) (tell other) x y

-- then they are settled
abbrev pub ToldIsSettled : Type 0
ToldIsSettled =
    (sources : Sources) → NamesDiffer sources.lots → (jobs : List LotJob) → AreJobsOf sources jobs
    → (tell : LotJob → Told) → ((job : LotJob) → Among job jobs → IsToldOf sources job (tell job))
    → AllAgree jobs tell → AreSettled sources.grammar jobs
