use Rattle.cga_trace.proofs.Sorted.{sorted_is_run}
use Rattle.cga_trace.proofs.laws.sorted_is_run.Goals as goal

pub returns : goal.returns
returns c = sorted_is_run
