use Rattle.std.proofs.Common.{refl, ◌∙◌, ◌+◌, arith}
use Rattle.cga_update.proofs.InLoops.{item_at}
use Rattle.cga_update.proofs.Adding.{gains_more, there_fewer, there_more, nothing_gained}
use Rattle.cga_update.proofs.Lots.{scope_of_lot}
use Rattle.cga_update.proofs.all_roots.add_run.Goals as goal

pub loop-lot-init : goal.loop-lot-init
loop-lot-init c = record {
  gains = nothing_gained c.args.renewal.new.now c.args.forest.now;
  there = λ n at there. there_fewer c.args.renewal.new.now c.args.forest.now n (n + 0) (omega arith) there;
  created = λ W within lists. lists;
  mode = refl;
  symbols = refl;
}

pub add_root-requires : goal.add_root-requires
add_root-requires c =
    let lots = c.args.renewal.new.now.lots in
    let i = c.loop-lot.lot-index in
    let item = item_at c.args.run.now c.args.run.now refl i c.lot-item.result c.loop-lot-test.true c.lot-item.is in
    let n = c.requires.listed.0 in
    let at = c.requires.listed.1 i c.lot-item.result item in
    record { symbols = c.loop-lot.invariant.symbols ∙ c.requires.symbols; listed = (n + i, at); scope = scope_of_lot lots c.args.renewal.roots (n + i) c.lot-item.result at }

pub loop-lot-preserved : goal.loop-lot-preserved
loop-lot-preserved c =
    let new = c.args.renewal.new.now in
    let first = c.args.forest.now in
    let before = c.loop-lot.forest in
    let after = c.add_root.new.forest in
    let i = c.loop-lot.lot-index in
    let item = item_at c.args.run.now c.args.run.now refl i c.lot-item.result c.loop-lot-test.true c.lot-item.is in
    let one = c.in_ok-add_root.ensures in record {
      gains = gains_more new first before after c.loop-lot.invariant.gains one.gains;
      there = λ n at there.
          there_fewer new after (n + i + 1) (n + (i + 1)) (omega arith)
          (there_more new before after (n + i) c.lot-item.result (at i c.lot-item.result item) one.gains one.there (c.loop-lot.invariant.there n at there));
      created = λ W within lists. one.created W (λ k d w. c.loop-lot.invariant.gains.more k d (within k d w)) (c.loop-lot.invariant.created W within lists);
      mode = one.mode ∙ c.loop-lot.invariant.mode;
      symbols = c.add_root.ensures.symbols ∙ c.loop-lot.invariant.symbols;
    }

pub returns-clause-there : goal.returns-clause-there
returns-clause-there c = λ n at there.
    there_fewer c.args.renewal.new.now c.loop-lot.forest (n + c.loop-lot.lot-index) _ (omega (arith, c.loop-lot-test.false)) (c.loop-lot.invariant.there n at there)
