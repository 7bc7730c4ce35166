use Rattle.cga_region.proofs.Again.{rest_agrees}
use Rattle.cga_region.proofs.laws.rest_agrees.Goals as goal

pub returns : goal.returns
returns c = rest_agrees
