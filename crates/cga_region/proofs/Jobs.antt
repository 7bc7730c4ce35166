-- A region in jobs that agree on what they see.
use Rattle.std.proofs.Common.{◌≡◌, List, true, false, sym, ◌∙◌, inl, inr}
use Rattle.cga_derivation.specs.Derivation.{IsDerived}
use Rattle.cga_region.proofs.TownJobs.{own_apart}
use Rattle.cga_region.specs.TownJobs.{AreJobsOf, AreSettled, JobsAreTheTown, LotJob, lots_of, own_members}
use Rattle.cga_region.specs.Told.{ToldIsSettled}
use Rattle.cga_region.specs.Towns.{with_lots}
use Rattle.cga_expand.specs.Children.{Member}
use Rattle.cga_expand.specs.Derivation.{derivation_of, NamesDiffer}
use Rattle.cga_shape.specs.declared.sources.Sources.{Sources}
use Rattle.cga_region.specs.Jobs.{AllTellAs, own_lists, RegionIsItsJobs}
use Rattle.cga_region.specs.Kept.{IsKept}
use Rattle.cga_region.specs.Parts.{AreSums}
use Rattle.cga_region.proofs.Lots.{places_differ, tell_alike}
use Rattle.cga_region.proofs.Parts.{once_of, sums}

-- where the jobs are settled, each lot is that of its job
pub by_settled : JobsAreTheTown → (sources : Sources) → NamesDiffer sources.lots → (jobs : List LotJob)
    → AreJobsOf sources jobs → AreSettled sources.grammar jobs
    → (list : List Member) × IsDerived (derivation_of sources) list × AllTellAs jobs list
    × AreSums (own_lists sources jobs) list
by_settled town sources differ jobs are settled =
    let w = town sources differ jobs are settled in
    let apart = places_differ sources differ w.0 w.1 in (
      w.0,
      w.1,
      (λ job j x h. tell_alike x.name w.0 job.members apart (places_differ (with_lots sources (lots_of job)) (are.differ job j) job.members (are.derived job j))
          (λ s k i e. (w.4 job x j h s k e).0 i) (λ s k i e. (w.4 job x j h s k e).1 i)),
      sums (own_lists sources jobs) w.0 (once_of (own_members sources jobs) (own_apart sources differ jobs are)) (once_of w.0 apart) w.2,
    )

pub region_is_its_jobs : JobsAreTheTown → ToldIsSettled → RegionIsItsJobs
region_is_its_jobs town settled sources differ jobs are tell told agree =
    by_settled town sources differ jobs are (settled sources differ jobs are tell told agree)

-- jobs that agree are settled
pub kept_settled : ToldIsSettled → (sources : Sources) (jobs : List LotJob) → IsKept sources jobs
    → AreSettled sources.grammar jobs
kept_settled settled sources jobs kept = elim kept.agree [
  | inl quiet ↦ λ job other x y j o h g. inr (
    (λ n m k i target has e plain asks. let bad : true ≡ false = sym asks ∙ quiet n.symbol target in cc),
    (λ n m k i target has e plain asks. let bad : true ≡ false = sym asks ∙ quiet n.symbol target in cc),
  )
  | inr told ↦ settled sources kept.names jobs kept.are told.0 told.1 told.2
]
