use Rattle.std.proofs.Common.{length, take}
use Rattle.cga_shape.specs.Runs.{joined}
use Rattle.cga_update.specs.Roots.{AreByName}
use Rattle.cga_update.proofs.lookup.lots_by_name.Given as goal

abbrev pub invariant-loop-run : goal.invariant-loop-run
invariant-loop-run l = AreByName l.lots (length (joined (take l.run-index l.run-items))) l.named.entries
