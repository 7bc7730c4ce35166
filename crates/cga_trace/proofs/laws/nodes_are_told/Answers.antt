use Rattle.cga_trace.proofs.Kept.{nodes_are_told}
use Rattle.cga_trace.proofs.laws.nodes_are_told.Goals as goal

pub returns : goal.returns
returns c = nodes_are_told
