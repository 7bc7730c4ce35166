use Rattle.cga_city.proofs.Reordered.{whole_sets_them}
use Rattle.cga_city.proofs.laws.whole_sets_them.Goals as goal

pub returns : goal.returns
returns c = whole_sets_them
