use Rattle.cga_region.proofs.Hulls.{hulls_tell_apart}
use Rattle.cga_region.proofs.towns.hulls_tell_apart.Goals as goal

pub returns : goal.returns
returns c = hulls_tell_apart
