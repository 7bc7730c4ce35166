use Rattle.std.proofs.Common.{◌≡◌, ◌++◌, take}
use Rattle.std.specs.Prelude.{flat_map}
use Rattle.cga_shape.specs.Runs.{joined}
use Rattle.cga_script.specs.Dumps.{lot_line}
use Rattle.cga_script.proofs.dump.push_lots.Given as goal

abbrev pub invariant-loop-run : goal.invariant-loop-run
invariant-loop-run l = l.text ≡ l.fn.text ++ flat_map lot_line (joined (take l.run-index l.run-items))
