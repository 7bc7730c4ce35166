use Rattle.cga_city.proofs.Reporting.{faults_step, faults_end}
use Rattle.cga_city.proofs.reports.push_faults_by.Goals as goal

pub loop-lot-preserved : goal.loop-lot-preserved
loop-lot-preserved c = λ list has.
    faults_step c.args.run.now list c.loop-lot.lot-index c.lot-item.result c.loop-lot.faults _ _ c.loop-lot-test.true c.lot-item.is
    (c.in_ok-push_faults_in.ensures list has) (c.loop-lot.invariant list has)

pub returns : goal.returns
returns c = λ list has. faults_end c.args.run.now list c.loop-lot.lot-index _ _ c.loop-lot-test.false (c.loop-lot.invariant list has)
