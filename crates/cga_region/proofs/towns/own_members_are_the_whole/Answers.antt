use Rattle.cga_region.proofs.Halos.{whole}
use Rattle.cga_region.proofs.towns.own_members_are_the_whole.Goals as goal

pub returns : goal.returns
returns g c = λ derivation laws jobs are alike. whole derivation laws jobs are alike c.consistent_is_within.ensures
