use Rattle.std.proofs.Common.{length}
use Rattle.cga_depend.proofs.apart.+behind_front.Given as goal

abbrev pub decreases-behind_front : goal.decreases-behind_front
decreases-behind_front l = length l.old.now
