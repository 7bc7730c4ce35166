use Rattle.cga_region.proofs.Jobs.{region_is_its_jobs}
use Rattle.cga_region.proofs.laws.region_is_its_jobs.Goals as goal

pub returns : goal.returns
returns c = region_is_its_jobs c.jobs_are_the_town.ensures c.told_is_settled.ensures
