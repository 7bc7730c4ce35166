use Rattle.std.proofs.Common.{◌∙◌, ◌+◌, arith, refl, sym}
use Rattle.cga_update.proofs.InLoops.{item_at}
use Rattle.cga_update.proofs.Lots.{found_by_name}
use Rattle.cga_update.proofs.Rooting.{keeps_roots, loses_more, wanted_fewer, wanted_more}
use Rattle.cga_update.proofs.all_roots.remove_run.Goals as goal

pub loop-lot-init : goal.loop-lot-init
loop-lot-init c = record {
  symbols = refl;
  lost = λ V lost. lost;
  wanted = λ n at wanted. wanted_fewer c.args.renewal.new.now c.args.renewal.old.now.lots c.args.forest.now n (n + 0) (omega arith) wanted;
  loses = keeps_roots c.args.renewal.new.now c.args.forest.now;
  mode = refl;
}

pub loop-lot-preserved : goal.loop-lot-preserved
loop-lot-preserved c =
    let new = c.args.renewal.new.now in
    let old = c.args.renewal.old.now.lots in
    let i = c.loop-lot.lot-index in
    let item = item_at c.args.run.now c.args.run.now refl i c.lot-item.result c.loop-lot-test.true c.lot-item.is in
    let one = c.in_ok-clear_root.ensures in record {
      symbols = c.clear_root.ensures.symbols ∙ c.loop-lot.invariant.symbols;
      lost = λ V l. one.lost V (c.loop-lot.invariant.lost V l);
      wanted = λ n at wanted.
          wanted_fewer new old c.clear_root.new.forest (n + i + 1) (n + (i + 1)) (omega arith)
          (wanted_more new old c.loop-lot.forest c.clear_root.new.forest (n + i) c.lot-item.result (at i c.lot-item.result item) one.loses one.wanted (c.loop-lot.invariant.wanted n at wanted));
      loses = loses_more new c.args.forest.now c.loop-lot.forest c.clear_root.new.forest c.loop-lot.invariant.loses one.loses;
      mode = one.mode ∙ c.loop-lot.invariant.mode;
    }

pub clear_root-requires-clause-lot : goal.clear_root-requires-clause-lot
clear_root-requires-clause-lot c =
    found_by_name c.args.renewal.new.now.lots c.args.named.now.entries c.requires.named c.lot-item.result.name _ (sym c.get-again.ensures.value)

pub returns-clause-wanted : goal.returns-clause-wanted
returns-clause-wanted c = λ n at wanted.
    wanted_fewer c.args.renewal.new.now c.args.renewal.old.now.lots c.loop-lot.forest (n + c.loop-lot.lot-index) _ (omega (arith, c.loop-lot-test.false)) (c.loop-lot.invariant.wanted n at wanted)
