use Rattle.std.proofs.Common.{length}
use Rattle.cga_depend.proofs.apart.+before_end.Given as goal

abbrev pub decreases-before_end : goal.decreases-before_end
decreases-before_end l = length l.old.now
