use Rattle.std.proofs.Common.{◌≡◌, length, take}
use Rattle.cga_forest.specs.NodeChange.{ListsOnlyIn}
use Rattle.cga_forest.specs.Tree.{node_at}
use Rattle.cga_shape.specs.Runs.{joined}
use Rattle.cga_update.specs.Roots.{View, AreThere, AreWithin, Gains}
use Rattle.cga_update.proofs.all_roots.add_all.Given as goal

abbrev pub invariant-loop-run : goal.invariant-loop-run
invariant-loop-run l = record {
  gains : Gains l.renewal.new.now l.fn.forest l.forest;
  there : AreThere l.renewal.new.now l.forest (length (joined (take l.run-index l.run-items)));
  created : (W : View) → AreWithin W (node_at l.fn.forest) → ListsOnlyIn (node_at l.fn.forest) W l.fn.created.items → ListsOnlyIn (node_at l.forest) W l.created.items;
  mode : l.forest.mode ≡ l.fn.forest.mode;
  symbols : l.symbols ≡ l.fn.symbols;
}
