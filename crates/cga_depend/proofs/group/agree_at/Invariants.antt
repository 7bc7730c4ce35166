use Rattle.std.proofs.Common.{All, take}
use Rattle.cga_depend.specs.Agreement.{AgreesAt}
use Rattle.cga_depend.proofs.group.agree_at.Given as goal

abbrev pub invariant-loop-entry : goal.invariant-loop-entry
invariant-loop-entry l = All (AgreesAt l.symbol l.old l.new) (take l.entry-index l.ids)
