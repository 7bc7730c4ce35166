use Rattle.cga_touched.proofs.Law.{touched_is_counted}
use Rattle.cga_touched.proofs.laws.touched_is_counted.Goals as goal

pub returns : goal.returns
returns c = touched_is_counted
