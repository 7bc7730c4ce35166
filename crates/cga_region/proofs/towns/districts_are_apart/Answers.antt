use Rattle.cga_region.proofs.Districts.{districts}
use Rattle.cga_region.proofs.towns.districts_are_apart.Goals as goal

pub returns : goal.returns
returns g c = districts c.own_members_are_the_whole.ensures
