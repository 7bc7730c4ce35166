-- The way back from an edit: each job goes back, and so does the region.
use Rattle.std.specs.Prelude.{◌≡◌, ◌↔◌, List, [], ◌∷◌}
use Rattle.cga_bill.specs.Bill.{Balances}
use Rattle.cga_derivation.specs.Derivation.{IsDerived}
use Rattle.cga_region.specs.TownJobs.{AreJobsOf, AreSettled, LotJob}
use Rattle.cga_expand.specs.Children.{Member}
use Rattle.cga_expand.specs.Derivation.{derivation_of, NamesDiffer}
use Rattle.cga_order.specs.World.{Among}
use Rattle.cga_shape.specs.declared.changes.Changes.{Changes}
use Rattle.cga_shape.specs.declared.drawn.Drawn.{Drawn}
use Rattle.cga_shape.specs.declared.lot.Lot.{Lot}
use Rattle.cga_shape.specs.declared.sources.Sources.{Sources}
use Rattle.cga_region.specs.Changes.{both, Course, no_changes, told_by, told_by_all}
use Rattle.cga_region.specs.Jobs.{AllTellAs}
use Rattle.cga_region.specs.Kept.{IsKept}
use Rattle.cga_region.specs.Lots.{TellAlikeOf}

-- ---- what is told

-- what takes changes back
abbrev pub undone : Changes → Changes
undone c = record { gone = c.come; come = c.gone }

-- the undos of the jobs, one job after the other
abbrev pub undone_by_all : List Course → Changes
undone_by_all [] = no_changes
undone_by_all (course ∷ courses) = both (undone (told_by course.steps)) (undone_by_all courses)

-- what takes back all that jobs told is the list of their undos, and balances the way back
abbrev pub UndoneByJobs : Type 0
UndoneByJobs =
    (courses : List Course)
    → (undone (told_by_all courses) ≡ undone_by_all courses)
    × ((before behind : List Drawn) (told : Changes) → Balances before behind told → Balances behind before (undone told))

-- ---- what is there

abbrev pub AreSameLots : List Lot → List Lot → Type 0
AreSameLots lots others = (x : Lot) → Among x lots ↔ Among x others

-- the rules, the mode and the lots are those of before, the lots in whatever order
pub record AreBack (old back : Sources) : Type 0 where
  pub grammar : back.grammar ≡ old.grammar
  pub mode : back.mode ≡ old.mode
  pub lots : AreSameLots old.lots back.lots
  pub names : NamesDiffer back.lots

-- a job has its own lots and those round them as before, in whatever order
pub record IsBack (was back : LotJob) : Type 0 where
  pub own : AreSameLots was.own back.own
  pub ring : AreSameLots was.ring back.ring

-- each of the jobs
abbrev pub AllBack : List LotJob → List LotJob → Type 0
AllBack [] [] = Unit {0}
AllBack (was ∷ jobs) (back ∷ backs) = IsBack was back × AllBack jobs backs
AllBack jobs backs = ⊥

-- where each job is back, the region is: nothing needs to be compared, each lot has the instances and faults of before, and
-- they are those of its job
abbrev pub BackByJobs : Type 0
BackByJobs =
    (old back : Sources) → AreBack old back
    → (jobs backs : List LotJob) → IsKept old jobs → AllBack jobs backs → AreJobsOf back backs
    → AreSettled back.grammar backs
    × ((list : List Member) × (other : List Member)
    × IsDerived (derivation_of old) list × IsDerived (derivation_of back) other
    × TellAlikeOf old.lots list other × AllTellAs backs other)
