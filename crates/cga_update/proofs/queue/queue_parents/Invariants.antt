use Rattle.std.proofs.Common.{ℕ}
use Rattle.cga_order.specs.World.{Among}
use Rattle.cga_queue.proofs.Door.{FirstHave}
use Rattle.cga_update.specs.Near.{IsParentOf}
use Rattle.cga_update.proofs.Nearby.{HasParents}
use Rattle.cga_update.proofs.queue.queue_parents.Given as goal

abbrev pub invariant-loop-id : goal.invariant-loop-id
invariant-loop-id l = record {
  all : FirstHave (HasParents l.forest l.parents) l.ids l.id-index;
  only : (p : ℕ) → Among p l.parents → IsParentOf l.forest l.ids p;
}
