use Rattle.std.proofs.Common.{◌≡◌, ℕ, ◌+◌}
use Rattle.cga_forest.specs.NodeChange.{ListsOnlyIn}
use Rattle.cga_forest.specs.Tree.{node_at}
use Rattle.cga_shape.specs.Runs.{IsRunAt}
use Rattle.cga_update.specs.Roots.{View, AreThere, AreWithin, Gains}
use Rattle.cga_update.proofs.all_roots.add_run.Given as goal

abbrev pub invariant-loop-lot : goal.invariant-loop-lot
invariant-loop-lot l = record {
  gains : Gains l.renewal.new.now l.fn.forest l.forest;
  there : (n : ℕ) → IsRunAt l.renewal.new.now.lots n l.run → AreThere l.renewal.new.now l.fn.forest n
      → AreThere l.renewal.new.now l.forest (n + l.lot-index);
  created : (W : View) → AreWithin W (node_at l.fn.forest) → ListsOnlyIn (node_at l.fn.forest) W l.fn.created.items → ListsOnlyIn (node_at l.forest) W l.created.items;
  mode : l.forest.mode ≡ l.fn.forest.mode;
  symbols : l.symbols ≡ l.fn.symbols;
}
