use Rattle.std.proofs.Common.{◌++◌, ◌∙◌, ap, sym, take}
use Rattle.cga_city.specs.Lots.{names_of}
use Rattle.cga_fraction.proofs.Door.{map-append}
use Rattle.cga_shape.proofs.Door.{joined-take, runs_read}
use Rattle.cga_shape.specs.declared.lot.Lot.{Lot}
use Rattle.cga_shape.specs.Runs.{joined}
use Rattle.cga_top.proofs.reports.names.Goals as goal

pub loop-run-preserved : goal.loop-run-preserved
loop-run-preserved c =
    let runs = c.runs-run-items.result.now in
    let k = c.loop-run.run-index in
    let run = c.run-item.result in
    let more = joined-take runs k run c.loop-run-test.true c.run-item.is in
    (rw c.as_slice.ensures at c.in_ok-push_names.ensures)
    ∙ (ap (λ names. names ++ names_of run) c.loop-run.invariant
    ∙ (sym (map-append (λ (lot : Lot). lot.name) (joined (take k runs)) run) ∙ ap names_of (sym more)))

pub returns : goal.returns
returns c = c.loop-run.invariant ∙ ap names_of (runs_read c.args.lots.now c.runs-run-items.result.now c.runs-run-items.ensures c.loop-run.run-index c.loop-run-test.false)
