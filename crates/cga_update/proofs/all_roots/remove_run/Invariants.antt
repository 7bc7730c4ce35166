use Rattle.std.proofs.Common.{◌≡◌, ℕ, ◌+◌}
use Rattle.cga_shape.specs.Runs.{IsRunAt}
use Rattle.cga_update.specs.Roots.{View, AreWanted, HasLost, Loses}
use Rattle.cga_update.proofs.all_roots.remove_run.Given as goal

abbrev pub invariant-loop-lot : goal.invariant-loop-lot
invariant-loop-lot l = record {
  symbols : l.symbols ≡ l.fn.symbols;
  lost : (V : View) → HasLost V l.fn.forest l.fn.removed.items → HasLost V l.forest l.removed.items;
  wanted : (n : ℕ) → IsRunAt l.renewal.old.now.lots n l.run → AreWanted l.renewal.new.now l.renewal.old.now.lots l.fn.forest n
      → AreWanted l.renewal.new.now l.renewal.old.now.lots l.forest (n + l.lot-index);
  loses : Loses l.renewal.new.now l.fn.forest l.forest;
  mode : l.forest.mode ≡ l.fn.forest.mode;
}
