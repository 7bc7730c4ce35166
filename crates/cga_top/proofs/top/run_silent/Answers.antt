use Rattle.cga_top.proofs.Silent.{status_means}
use Rattle.cga_top.proofs.top.run_silent.Goals as goal

pub returns-clause-means : goal.returns-clause-means
returns-clause-means g c = status_means _ _ _ _ c.run_script.ensures.means
