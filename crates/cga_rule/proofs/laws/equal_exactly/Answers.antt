use Rattle.cga_rule.proofs.laws.equal_exactly.Goals as goal
use Rattle.cga_rule.proofs.Equal.{equal_exactly}

pub returns : goal.returns
returns c = equal_exactly
