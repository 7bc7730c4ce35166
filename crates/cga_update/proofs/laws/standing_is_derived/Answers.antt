use Rattle.cga_update.proofs.Standing.{standing_is_derived}
use Rattle.cga_update.proofs.laws.standing_is_derived.Goals as goal

pub returns : goal.returns
returns c = standing_is_derived
