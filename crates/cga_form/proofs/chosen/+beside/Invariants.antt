use Rattle.std.proofs.Common.{length}
use Rattle.cga_form.proofs.chosen.+beside.Given as goal

abbrev pub decreases-beside : goal.decreases-beside
decreases-beside g l = length l.list.now
