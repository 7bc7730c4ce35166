use Rattle.cga_forest.proofs.covering.renew_loose.Goals as goal
use Rattle.cga_forest.proofs.covering.renew_loose.Goals.{then-is_loose, else-is_loose}

pub loop-block-preserved : goal.loop-block-preserved
loop-block-preserved c = elim c.if-is_loose.branch [
  | then-is_loose w ↦ λ p k h at e. rw w.blocks-is (w.renew.ensures p k h at e)
  | else-is_loose w ↦ λ p k h at e. rw w.blocks-is (c.loop-block.invariant p k h at e)
]
