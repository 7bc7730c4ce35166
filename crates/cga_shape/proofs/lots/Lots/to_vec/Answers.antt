use Rattle.cga_shape.proofs.Runs.{joined-take}
use Rattle.cga_shape.proofs.lots.Lots.to_vec.Goals as goal

pub loop-run-preserved : goal.loop-run-preserved
loop-run-preserved c =
    let more = joined-take c.runs-run-items.result.now c.loop-run.run-index c.run-item.result c.loop-run-test.true c.run-item.is in
    let read = c.in_ok-extend_from_slice.ensures.items in
    cc
