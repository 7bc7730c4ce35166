use Rattle.cga_expand.proofs.Untouched.{nothing_is_touched}
use Rattle.cga_expand.proofs.laws.nothing_is_touched.Goals as goal

pub returns : goal.returns
returns c = nothing_is_touched
