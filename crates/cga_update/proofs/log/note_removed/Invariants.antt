use Rattle.std.proofs.Common.{◌≡◌, ◌++◌, drop}
use Rattle.cga_update.specs.Log.{removed_of, drawn_of}
use Rattle.cga_update.proofs.log.note_removed.Given as goal

abbrev pub invariant-loop-node : goal.invariant-loop-node
invariant-loop-node l = record {
  log : l.log.items ++ removed_of (drop l.node-index l.moved) ≡ l.fn.log.items ++ removed_of l.moved;
  gone : l.gone.items ++ drawn_of (drop l.node-index l.moved) ≡ l.fn.gone.items ++ drawn_of l.moved;
}
