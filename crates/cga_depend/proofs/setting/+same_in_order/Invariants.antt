use Rattle.std.proofs.Common.{length}
use Rattle.cga_depend.proofs.setting.+same_in_order.Given as goal

abbrev pub decreases-same_in_order : goal.decreases-same_in_order
decreases-same_in_order l = length l.old.now
