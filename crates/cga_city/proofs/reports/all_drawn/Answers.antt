use Rattle.std.proofs.Common.{◌+◌, ◌++◌, ◌∙◌, List, ap, drop, sym}
use Rattle.cga_shape.proofs.Door.{joined-drop, runs_left}
use Rattle.cga_shape.specs.declared.lot.Lot.{Lot}
use Rattle.cga_shape.specs.Runs.{joined}
use Rattle.cga_city.specs.Lots.{names_of}
use Rattle.cga_city.specs.Reports.{drawn_in}
use Rattle.cga_city.proofs.Reporting.{drawn_none}
use Rattle.cga_city.proofs.Runs.{drawn_more}
use Rattle.cga_city.proofs.reports.all_drawn.Goals as goal

pub loop-run-init : goal.loop-run-init
loop-run-init c = λ list has. rw c.new-drawn.ensures (ap (λ (lots : List Lot). drawn_in (names_of lots) list) c.runs-run-items.ensures)

pub loop-run-preserved : goal.loop-run-preserved
loop-run-preserved c = λ list has.
    let runs = c.runs-run-items.result.now in
    let k = c.loop-run.run-index in
    let run = c.run-item.result in
    let left = joined-drop runs k run c.loop-run-test.true c.run-item.is in
    let made = rw c.as_slice.ensures at (c.in_ok-push_drawn_by.ensures list has) in
    drawn_more run (joined (drop (k + 1) runs)) list c.loop-run.drawn _ _ made
    (ap (λ (lots : List Lot). c.loop-run.drawn ++ drawn_in (names_of lots) list) (sym left) ∙ c.loop-run.invariant list has)

pub returns : goal.returns
returns c = λ list has.
    let left = runs_left c.runs-run-items.result.now c.loop-run.run-index c.loop-run-test.false in
    drawn_none list c.loop-run.drawn _ (ap (λ (lots : List Lot). c.loop-run.drawn ++ drawn_in (names_of lots) list) (sym left) ∙ c.loop-run.invariant list has)
