use Rattle.std.proofs.Common.{◌≡◌, ◌∙◌, ℕ, List, get_or, length, take, arith, ap, refl, sym, subst}
use Rattle.cga_shape.proofs.Door.{run_at, run_next, runs_read}
use Rattle.cga_shape.specs.declared.lot.Lot.{Lot}
use Rattle.cga_shape.specs.Runs.{joined}
use Rattle.cga_update.specs.Roots.{AreWanted}
use Rattle.cga_update.proofs.Rooting.{keeps_roots, loses_more, all_wanted}
use Rattle.cga_update.proofs.all_roots.remove_all.Goals as goal

pub loop-run-init : goal.loop-run-init
loop-run-init c = record {
  symbols = refl;
  lost = λ V lost. lost;
  wanted = λ i lot lt. absurd (omega (arith, lt));
  loses = keeps_roots c.args.renewal.new.now c.args.forest.now;
  mode = refl;
}

pub loop-run-preserved : goal.loop-run-preserved
loop-run-preserved c =
    let new = c.args.renewal.new.now in
    let old = c.args.renewal.old.now.lots in
    let runs = c.runs-run-items.result.now in
    let k = c.loop-run.run-index in
    let run = c.as_slice.result.now in
    let is = subst (λ (r : List Lot). r ≡ get_or runs k r) (sym c.as_slice.ensures) c.run-item.is in
    let one = c.in_ok-remove_run.ensures in record {
      symbols = c.remove_run.ensures.symbols ∙ c.loop-run.invariant.symbols;
      lost = λ V l. one.lost V (c.loop-run.invariant.lost V l);
      wanted =
          subst (λ (n : ℕ). AreWanted new old c.remove_run.new.forest n) (run_next old runs c.runs-run-items.ensures k run c.loop-run-test.true is)
          (one.wanted (length (joined (take k runs))) (run_at old runs c.runs-run-items.ensures k run c.loop-run-test.true is) c.loop-run.invariant.wanted);
      loses = loses_more new c.args.forest.now c.loop-run.forest c.remove_run.new.forest c.loop-run.invariant.loses one.loses;
      mode = one.mode ∙ c.loop-run.invariant.mode;
    }

pub returns-clause-wanted : goal.returns-clause-wanted
returns-clause-wanted c =
    let old = c.args.renewal.old.now in
    let read = ap length (runs_read old.lots c.runs-run-items.result.now c.runs-run-items.ensures c.loop-run.run-index c.loop-run-test.false) in
    all_wanted old c.args.renewal.new.now c.args.forest.now c.loop-run.forest _ (omega (arith, read)) c.requires.wanted c.loop-run.invariant.loses c.loop-run.invariant.wanted
