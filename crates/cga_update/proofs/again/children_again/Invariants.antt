use Rattle.std.proofs.Common.{◌≡◌, Some, length}
use Rattle.cga_forest.specs.View.{Seen}
use Rattle.cga_forest.specs.Tree.{node_at}
use Rattle.cga_update.specs.Turned.{AreEmitted}
use Rattle.cga_update.proofs.again.children_again.Given as goal

abbrev pub invariant-loop-place : goal.invariant-loop-place
invariant-loop-place l = record {
  emitted : (e : Seen) → node_at l.forest l.id ≡ Some e → AreEmitted l.forest e l.place l.made.items;
  sized : length l.made.items ≡ l.place;
}
