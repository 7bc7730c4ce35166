use Rattle.cga_order.proofs.Turns.{still_right}
use Rattle.cga_order.proofs.laws.turns_keep_right.Goals as goal

pub returns : goal.returns
returns g c = still_right
