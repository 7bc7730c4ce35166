use Rattle.cga_derivation.proofs.Sites.{world}
use Rattle.cga_derivation.proofs.laws.sites_are_worlds.Goals as goal

pub returns : goal.returns
returns g c = world
