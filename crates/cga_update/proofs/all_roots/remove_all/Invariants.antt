use Rattle.std.proofs.Common.{◌≡◌, length, take}
use Rattle.cga_shape.specs.Runs.{joined}
use Rattle.cga_update.specs.Roots.{View, AreWanted, HasLost, Loses}
use Rattle.cga_update.proofs.all_roots.remove_all.Given as goal

abbrev pub invariant-loop-run : goal.invariant-loop-run
invariant-loop-run l = record {
  symbols : l.symbols ≡ l.fn.symbols;
  lost : (V : View) → HasLost V l.fn.forest l.fn.removed.items → HasLost V l.forest l.removed.items;
  wanted : AreWanted l.renewal.new.now l.renewal.old.now.lots l.forest (length (joined (take l.run-index l.run-items)));
  loses : Loses l.renewal.new.now l.fn.forest l.forest;
  mode : l.forest.mode ≡ l.fn.forest.mode;
}
