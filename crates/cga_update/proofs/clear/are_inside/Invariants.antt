use Rattle.std.proofs.Common.{◌≡◌}
use Rattle.cga_frame.specs.Box.{box_of}
use Rattle.cga_forest.specs.declared.node_change.NodeChange.{NodeChange}
use Rattle.cga_index.specs.Around.{IsWider}
use Rattle.cga_queue.proofs.Door.{FirstHave}
use Rattle.cga_update.proofs.clear.are_inside.Given as goal

abbrev pub invariant-loop-node : goal.invariant-loop-node
invariant-loop-node l = FirstHave (λ (m : NodeChange). IsWider (box_of m.scope) l.area) l.moved l.node-index
