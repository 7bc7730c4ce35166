use Rattle.cga_order.proofs.Unique.{has_members, has_made}
use Rattle.cga_order.proofs.laws.consistent_so_far.Goals as goal

pub returns : goal.returns
returns g c = λ world laws limit list con taken reached run before. (has_members world laws limit list con taken reached run before, has_made world laws limit list con taken reached run before)
