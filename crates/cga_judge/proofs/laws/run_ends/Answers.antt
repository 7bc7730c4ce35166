use Rattle.cga_judge.proofs.Runs.{ended_by}
use Rattle.cga_judge.proofs.laws.run_ends.Goals as goal

pub returns : goal.returns
returns c = ended_by
