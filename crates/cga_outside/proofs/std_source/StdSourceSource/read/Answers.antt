use Rattle.cga_outside.proofs.Taken.{zero_at_end}
use Rattle.cga_outside.proofs.std_source.StdSourceSource.read.Goals as goal

pub returns-else-count-eq0-clause-end : goal.returns-else-count-eq0-clause-end
returns-else-count-eq0-clause-end g c = zero_at_end _ _ _ _ _ c.in-Ok.ensures.bound.0 c.in-Ok.ensures.bytes
