use Rattle.cga_forest.specs.View.{at}
use Rattle.cga_forest.specs.Tree.{depth_at}
use Rattle.cga_forest.proofs.hulls.+refresh.Given as goal

abbrev pub decreases-refresh : goal.decreases-refresh
decreases-refresh l = depth_at (at l.store.now l.id)
