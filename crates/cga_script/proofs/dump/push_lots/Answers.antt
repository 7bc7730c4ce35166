use Rattle.std.proofs.Common.{List, ◌++◌, take, ap, sym, ◌∙◌}
use Rattle.std.specs.Prelude.{flat_map}
use Rattle.std.proofs.lemmas.Grind.{flat_map-append}
use Rattle.std.proofs.lemmas.List.{append_assoc}
use Rattle.cga_shape.proofs.Door.{joined-take, runs_read}
use Rattle.cga_shape.specs.declared.lot.Lot.{Lot}
use Rattle.cga_shape.specs.Runs.{joined}
use Rattle.cga_script.specs.Dumps.{lot_line}
use Rattle.cga_script.proofs.dump.push_lots.Goals as goal

pub loop-run-preserved : goal.loop-run-preserved
loop-run-preserved c =
    let runs = c.runs-run-items.result.now in
    let k = c.loop-run.run-index in
    let run = c.run-item.result in
    let before = joined (take k runs) in
    let lines = λ (lots : List Lot). flat_map lot_line lots in
    let next = sym (flat_map-append lot_line before run) ∙ ap lines (sym (joined-take runs k run c.loop-run-test.true c.run-item.is)) in
    (rw c.as_slice.ensures at c.in_ok-push_run.ensures)
    ∙ (ap (λ t. t ++ lines run) c.loop-run.invariant
    ∙ (append_assoc c.args.text.now (lines before) (lines run) ∙ ap (λ t. c.args.text.now ++ t) next))

pub returns : goal.returns
returns c =
    c.loop-run.invariant
    ∙ ap (λ (lots : List Lot). c.args.text.now ++ flat_map lot_line lots) (runs_read c.args.lots.now c.runs-run-items.result.now c.runs-run-items.ensures c.loop-run.run-index c.loop-run-test.false)
