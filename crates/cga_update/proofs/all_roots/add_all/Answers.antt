use Rattle.std.proofs.Common.{◌≡◌, ℕ, List, get_or, length, take, ap, refl, sym, subst, ◌∙◌, arith}
use Rattle.cga_shape.proofs.Door.{run_at, run_next, runs_read}
use Rattle.cga_shape.specs.declared.lot.Lot.{Lot}
use Rattle.cga_shape.specs.Runs.{joined}
use Rattle.cga_update.specs.Roots.{AreThere}
use Rattle.cga_update.proofs.Adding.{gains_more, nothing_gained}
use Rattle.cga_update.proofs.all_roots.add_all.Goals as goal

pub loop-run-init : goal.loop-run-init
loop-run-init c = record {
  gains = nothing_gained c.args.renewal.new.now c.args.forest.now;
  there = λ i lot le. absurd (omega (arith, le));
  created = λ W within lists. lists;
  mode = refl;
  symbols = refl;
}

pub add_run-requires-clause-listed : goal.add_run-requires-clause-listed
add_run-requires-clause-listed c =
    let lots = c.args.renewal.new.now.lots in
    let runs = c.runs-run-items.result.now in
    let k = c.loop-run.run-index in
    let is = subst (λ (r : List Lot). r ≡ get_or runs k r) (sym c.as_slice.ensures) c.run-item.is in
    (length (joined (take k runs)), run_at lots runs c.runs-run-items.ensures k c.as_slice.result.now c.loop-run-test.true is)

pub loop-run-preserved : goal.loop-run-preserved
loop-run-preserved c =
    let new = c.args.renewal.new.now in
    let first = c.args.forest.now in
    let before = c.loop-run.forest in
    let after = c.add_run.new.forest in
    let runs = c.runs-run-items.result.now in
    let k = c.loop-run.run-index in
    let run = c.as_slice.result.now in
    let is = subst (λ (r : List Lot). r ≡ get_or runs k r) (sym c.as_slice.ensures) c.run-item.is in
    let one = c.in_ok-add_run.ensures in record {
      gains = gains_more new first before after c.loop-run.invariant.gains one.gains;
      there =
          subst (λ (n : ℕ). AreThere new after n) (run_next new.lots runs c.runs-run-items.ensures k run c.loop-run-test.true is)
          (one.there (length (joined (take k runs))) (run_at new.lots runs c.runs-run-items.ensures k run c.loop-run-test.true is) c.loop-run.invariant.there);
      created = λ W within lists. one.created W (λ k d w. c.loop-run.invariant.gains.more k d (within k d w)) (c.loop-run.invariant.created W within lists);
      mode = one.mode ∙ c.loop-run.invariant.mode;
      symbols = c.add_run.ensures.symbols ∙ c.loop-run.invariant.symbols;
    }

pub returns-clause-there : goal.returns-clause-there
returns-clause-there c =
    let new = c.args.renewal.new.now in
    subst (λ (n : ℕ). AreThere new c.loop-run.forest n) (ap length (runs_read new.lots c.runs-run-items.result.now c.runs-run-items.ensures c.loop-run.run-index c.loop-run-test.false)) c.loop-run.invariant.there
