use Rattle.cga_region.proofs.TownJobs.{jobs_are_the_town}
use Rattle.cga_region.proofs.towns.jobs_are_the_town.Goals as goal

pub returns : goal.returns
returns c = jobs_are_the_town c.consistent_is_within.ensures
