-- A region in jobs that derive their neighbours, too: what is told of each lot is what the job that answers for it tells.
use Rattle.std.specs.Prelude.{List, map}
use Rattle.cga_order.specs.World.{Among}
use Rattle.cga_shape.specs.declared.sources.Sources.{Sources}
use Rattle.cga_derivation.specs.Derivation.{IsDerived}
use Rattle.cga_expand.specs.Children.{Member}
use Rattle.cga_expand.specs.Derivation.{derivation_of, NamesDiffer}
use Rattle.cga_region.specs.Halos.{own_of}
use Rattle.cga_region.specs.TownJobs.{AreJobsOf, LotJob, rooted}
use Rattle.cga_region.specs.Told.{AllAgree, IsToldOf, Told}
use Rattle.cga_region.specs.Lots.{TellAlikeOf}
use Rattle.cga_region.specs.Parts.{AreSums}

-- of the lots that a job answers for the list tells what the job's list tells
abbrev pub AllTellAs : List LotJob → List Member → Type 0
AllTellAs jobs list = (job : LotJob) → Among job jobs → TellAlikeOf job.own list job.members

-- of each job the members of the lots that it answers for
abbrev pub own_lists : Sources → List LotJob → List (List Member)
own_lists sources jobs = map (own_of (derivation_of sources)) (map rooted jobs)

-- where all that jobs see agrees, as they tell it: each lot's instances and faults are those of the job that answers for
-- it, and counts are sums over what jobs answer for
abbrev pub RegionIsItsJobs : Type 0
RegionIsItsJobs =
    (sources : Sources) → NamesDiffer sources.lots → (jobs : List LotJob) → AreJobsOf sources jobs
    → (tell : LotJob → Told) → ((job : LotJob) → Among job jobs → IsToldOf sources job (tell job))
    → AllAgree jobs tell
    → (list : List Member) × IsDerived (derivation_of sources) list × AllTellAs jobs list
    × AreSums (own_lists sources jobs) list
