use Rattle.std.proofs.Common.{refl, arith}
use Rattle.cga_shape.specs.Runs.{joined}
use Rattle.cga_shape.proofs.Runs.{run_next}
use Rattle.cga_shape.proofs.lots.spot.Goals as goal

pub loop-index-preserved : goal.loop-index-preserved
loop-index-preserved c =
    let next = run_next (joined c.args.runs.now) c.args.runs.now refl c.loop-index.index c.index-runs-index.result (omega arith) c.index-runs-index.is in
    (omega arith, omega (arith, next))
