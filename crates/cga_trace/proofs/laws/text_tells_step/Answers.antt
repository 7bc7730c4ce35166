use Rattle.cga_trace.proofs.Tells as tells
use Rattle.cga_trace.proofs.laws.text_tells_step.Goals as goal

pub returns : goal.returns
returns c = tells.text_tells_step
