use Rattle.cga_trace.proofs.Places.{chains_are_kept}
use Rattle.cga_trace.proofs.laws.chains_are_kept.Goals as goal

pub returns : goal.returns
returns c = chains_are_kept
