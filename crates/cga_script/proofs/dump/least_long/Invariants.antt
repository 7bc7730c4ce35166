use Rattle.std.proofs.Common.{◌≡◌, None, drop}
use Rattle.cga_syntax.specs.Least.{least}
use Rattle.cga_script.specs.Dumps.{long_ids}
use Rattle.cga_script.proofs.dump.least_long.Given as goal

abbrev pub invariant-loop-entry : goal.invariant-loop-entry
invariant-loop-entry l = least 0 l.least (long_ids (drop l.entry-index l.entries)) ≡ least 0 None (long_ids l.entries)
