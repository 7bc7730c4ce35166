use Rattle.std.proofs.Common.{◌≡◌, ℕ}
use Rattle.cga_forest.specs.declared.node_change.NodeChange.{NodeChange}
use Rattle.cga_queue.specs.Remembered.{IsRemembered}
use Rattle.cga_queue.proofs.Door.{FirstHave}
use Rattle.cga_update.proofs.follow.forget_all.Given as goal

abbrev pub invariant-loop-moved : goal.invariant-loop-moved
invariant-loop-moved l =
    (c : ℕ) → IsRemembered l.remembered c
    → IsRemembered l.fn.remembered c × FirstHave (λ (m : NodeChange). m.id ≡ c → ⊥) l.removed l.moved-index
