use Rattle.cga_update.proofs.Ending.{stands_back}
use Rattle.cga_update.proofs.laws.put_back_stands.Goals as goal

pub returns : goal.returns
returns c = stands_back
