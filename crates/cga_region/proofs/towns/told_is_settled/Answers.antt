use Rattle.cga_region.proofs.Told.{told_is_settled}
use Rattle.cga_region.proofs.towns.told_is_settled.Goals as goal

pub returns : goal.returns
returns c = told_is_settled
