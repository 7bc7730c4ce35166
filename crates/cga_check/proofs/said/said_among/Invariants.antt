use Rattle.std.proofs.Common.{◌≡◌, take}
use Rattle.cga_check.specs.Said.{said_among}
use Rattle.cga_check.proofs.said.said_among.Given as goal

abbrev pub invariant-loop-entry : goal.invariant-loop-entry
invariant-loop-entry l = l.said ≡ said_among l.symbol (take l.entry-index l.entries)
