use Rattle.cga_touched.proofs.Heights.{height_is_touched}
use Rattle.cga_touched.proofs.laws.height_is_touched.Goals as goal

pub returns : goal.returns
returns c = height_is_touched
