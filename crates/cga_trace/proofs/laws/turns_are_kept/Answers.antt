use Rattle.cga_trace.proofs.Places.{turns_are_kept}
use Rattle.cga_trace.proofs.laws.turns_are_kept.Goals as goal

pub returns : goal.returns
returns c = turns_are_kept
