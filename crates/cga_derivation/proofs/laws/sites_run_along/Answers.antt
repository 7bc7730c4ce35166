use Rattle.cga_derivation.proofs.Along.{reached-sites, erase-sites}
use Rattle.cga_derivation.proofs.laws.sites_run_along.Goals as goal

pub returns : goal.returns
returns g c = λ derivation n. (reached-sites derivation n, erase-sites derivation n)
