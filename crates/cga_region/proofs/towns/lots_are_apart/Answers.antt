use Rattle.cga_region.proofs.TownRoots.{towns}
use Rattle.cga_region.proofs.towns.lots_are_apart.Goals as goal

pub returns : goal.returns
returns c = towns c.districts_are_apart.ensures
