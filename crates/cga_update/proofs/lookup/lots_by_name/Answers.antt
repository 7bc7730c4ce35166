use Rattle.std.proofs.Common.{◌≡◌, ℕ, List, get_or, length, take, ap, sym, subst}
use Rattle.cga_shape.proofs.Door.{run_at, run_next, runs_read}
use Rattle.cga_shape.specs.declared.lot.Lot.{Lot}
use Rattle.cga_shape.specs.Runs.{joined}
use Rattle.cga_update.specs.Roots.{AreByName}
use Rattle.cga_update.proofs.Lots.{none_by_name}
use Rattle.cga_update.proofs.lookup.lots_by_name.Goals as goal

pub loop-run-init : goal.loop-run-init
loop-run-init c = none_by_name c.args.lots.now c.new-named.result.entries c.new-named.ensures.empty

pub loop-run-preserved : goal.loop-run-preserved
loop-run-preserved c =
    let lots = c.args.lots.now in
    let runs = c.runs-run-items.result.now in
    let k = c.loop-run.run-index in
    let run = c.as_slice.result.now in
    let is = subst (λ (r : List Lot). r ≡ get_or runs k r) (sym c.as_slice.ensures) c.run-item.is in
    subst (λ (n : ℕ). AreByName lots n c.name_run.new.named.entries) (run_next lots runs c.runs-run-items.ensures k run c.loop-run-test.true is)
    (c.in_ok-name_run.ensures lots (length (joined (take k runs))) (run_at lots runs c.runs-run-items.ensures k run c.loop-run-test.true is) c.loop-run.invariant)

pub returns : goal.returns
returns c =
    let lots = c.args.lots.now in
    subst (λ (n : ℕ). AreByName lots n c.loop-run.named.entries) (ap length (runs_read lots c.runs-run-items.result.now c.runs-run-items.ensures c.loop-run.run-index c.loop-run-test.false)) c.loop-run.invariant
