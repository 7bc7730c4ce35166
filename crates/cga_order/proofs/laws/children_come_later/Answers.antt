use Rattle.cga_order.proofs.Chains.{birth-child, stamp-child, root-before}
use Rattle.cga_order.proofs.laws.children_come_later.Goals as goal

pub returns : goal.returns
returns c = record { made = birth-child; later = stamp-child; roots_there = root-before }
