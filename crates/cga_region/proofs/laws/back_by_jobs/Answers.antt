use Rattle.cga_region.proofs.Back.{back_by_jobs, undone_by_jobs}
use Rattle.cga_region.proofs.laws.back_by_jobs.Goals as goal

pub returns : goal.returns
returns c = record { undone = undone_by_jobs; back = back_by_jobs c.jobs_are_the_town.ensures c.told_is_settled.ensures }
