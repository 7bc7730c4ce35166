use Rattle.cga_update.proofs.Counting.{counts}
use Rattle.cga_update.proofs.worker.WorkWorker.count.Goals as goal

pub returns : goal.returns
returns c = counts c.args.self.now c.count.result c.count.ensures
