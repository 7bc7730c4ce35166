use Rattle.cga_region.proofs.Refusals.{refusals_are_of_jobs}
use Rattle.cga_region.proofs.laws.refusals_are_of_jobs.Goals as goal

pub returns : goal.returns
returns c = refusals_are_of_jobs
