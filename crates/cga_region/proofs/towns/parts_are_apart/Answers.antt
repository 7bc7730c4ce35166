use Rattle.cga_region.proofs.TownParts.{parts_are_apart}
use Rattle.cga_region.proofs.towns.parts_are_apart.Goals as goal

pub returns : goal.returns
returns c = parts_are_apart c.lots_are_apart.ensures
