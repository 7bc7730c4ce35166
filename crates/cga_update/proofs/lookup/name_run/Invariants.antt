use Rattle.std.proofs.Common.{ℕ, List, ◌+◌}
use Rattle.cga_shape.specs.declared.lot.Lot.{Lot}
use Rattle.cga_shape.specs.Runs.{IsRunAt}
use Rattle.cga_update.specs.Roots.{AreByName}
use Rattle.cga_update.proofs.lookup.name_run.Given as goal

abbrev pub invariant-loop-lot : goal.invariant-loop-lot
invariant-loop-lot l = (lots : List Lot) (n : ℕ) → IsRunAt lots n l.run → AreByName lots n l.fn.named.entries → AreByName lots (n + l.lot-index) l.named.entries
