use Rattle.cga_region.proofs.Parts.{region_is_its_parts}
use Rattle.cga_region.proofs.laws.region_is_its_parts.Goals as goal

pub returns : goal.returns
returns c = region_is_its_parts c.parts_are_apart.ensures
