use Rattle.std.proofs.Common.{length}
use Rattle.cga_depend.proofs.group.+agree.Given as goal

abbrev pub decreases-agree : goal.decreases-agree
decreases-agree l = length l.old.now
