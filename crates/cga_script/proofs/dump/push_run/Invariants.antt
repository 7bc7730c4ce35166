use Rattle.std.proofs.Common.{◌≡◌, ◌++◌, take}
use Rattle.std.specs.Prelude.{flat_map}
use Rattle.cga_script.specs.Dumps.{lot_line}
use Rattle.cga_script.proofs.dump.push_run.Given as goal

abbrev pub invariant-loop-lot : goal.invariant-loop-lot
invariant-loop-lot l = l.text ≡ l.fn.text ++ flat_map lot_line (take l.lot-index l.lots)
