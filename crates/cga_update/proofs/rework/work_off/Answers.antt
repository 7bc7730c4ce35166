use Rattle.cga_update.proofs.Reworking.{has_ended, where_ok}
use Rattle.cga_update.proofs.rework.work_off.Goals as goal

pub returns-clause-ended : goal.returns-clause-ended
returns-clause-ended g c =
    where_ok c.work.result
    (λ e ends old new v between begun.
    has_ended old new v c.args.under_way.now c.work.new.worker _ c.args.under_way.now.renewal.budget c.args.expansions.now c.work.new.expansions e ends c.len-roots.ensures between begun)
    c.work.ensures.ended
