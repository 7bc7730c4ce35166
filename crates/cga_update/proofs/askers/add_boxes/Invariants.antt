use Rattle.std.proofs.Common.{◌≡◌, ◌++◌, drop}
use Rattle.cga_update.specs.Askers.{boxes_of}
use Rattle.cga_update.proofs.askers.add_boxes.Given as goal

abbrev pub invariant-loop-node : goal.invariant-loop-node
invariant-loop-node l = l.boxes.items ++ boxes_of (drop l.node-index l.moved) ≡ l.fn.boxes.items ++ boxes_of l.moved
