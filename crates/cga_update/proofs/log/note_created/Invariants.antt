use Rattle.std.proofs.Common.{◌≡◌, ◌++◌, drop}
use Rattle.cga_update.specs.Log.{created_of, drawn_of}
use Rattle.cga_update.proofs.log.note_created.Given as goal

abbrev pub invariant-loop-node : goal.invariant-loop-node
invariant-loop-node l = record {
  log : l.log.items ++ created_of (drop l.node-index l.moved) ≡ l.fn.log.items ++ created_of l.moved;
  come : l.come.items ++ drawn_of (drop l.node-index l.moved) ≡ l.fn.come.items ++ drawn_of l.moved;
}
