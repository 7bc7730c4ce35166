use Rattle.cga_city.specs.Reports as spec
use Rattle.cga_city.proofs.Reporting.{pushed_in}
use Rattle.cga_city.proofs.reports.push_drawn_in.Goals as goal

pub returns : goal.returns
returns c = pushed_in spec.drawn_of c.args.forest.now c.laws.ensures c.args.lot _ c.in_ok-nodes.ensures _ _ (rw c.as_slice.ensures.value at c.in_ok-push_drawn_of.ensures)
