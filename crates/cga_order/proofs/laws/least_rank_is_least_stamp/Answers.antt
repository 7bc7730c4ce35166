use Rattle.cga_order.proofs.Steps.{least_stamp, in_order}
use Rattle.cga_order.proofs.laws.least_rank_is_least_stamp.Goals as goal

pub returns : goal.returns
returns g c = λ world laws taken before after s reached step. least_stamp world laws before s (in_order world laws taken before reached) step.waits step.least
