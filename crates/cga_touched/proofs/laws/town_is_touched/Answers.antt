use Rattle.cga_touched.proofs.Example.{town_is_touched}
use Rattle.cga_touched.proofs.laws.town_is_touched.Goals as goal

pub returns : goal.returns
returns c = town_is_touched
