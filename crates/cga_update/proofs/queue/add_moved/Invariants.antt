use Rattle.std.proofs.Common.{◌≡◌}
use Rattle.cga_forest.specs.declared.node_change.NodeChange.{NodeChange}
use Rattle.cga_queue.specs.Agenda.{Grows}
use Rattle.cga_queue.proofs.Door.{HasFirst}
use Rattle.cga_update.specs.Askers.{IsOneOf}
use Rattle.cga_update.specs.Queue.{chains_of}
use Rattle.cga_update.proofs.queue.add_moved.Given as goal

abbrev pub invariant-loop-node : goal.invariant-loop-node
invariant-loop-node l = record {
  grows : Grows (chains_of l.forest) (IsOneOf l.moved) l.fn.agenda l.agenda;
  there : HasFirst (chains_of l.forest) (λ (m : NodeChange) c. m.id ≡ c) l.moved l.node-index l.agenda;
}
