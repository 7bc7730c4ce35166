use Rattle.cga_region.proofs.Lots.{lots_are_their_districts}
use Rattle.cga_region.proofs.laws.lots_are_their_districts.Goals as goal

pub returns : goal.returns
returns c = lots_are_their_districts c.lots_are_apart.ensures
