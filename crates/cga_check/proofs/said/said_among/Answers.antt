use Rattle.std.proofs.Common.{sym, ◌∙◌}
use Rattle.cga_check.proofs.Telling.{walk_start, walk_own, walk_other, walk_end}
use Rattle.cga_check.proofs.said.said_among.Goals as goal
use Rattle.cga_check.proofs.said.said_among.Goals.{then-eq, else-eq}

pub loop-entry-init : goal.loop-entry-init
loop-entry-init c = walk_start c.args.symbol

pub loop-entry-preserved : goal.loop-entry-preserved
loop-entry-preserved c =
    let es = c.args.entries.now in
    let i = c.loop-entry.entry-index in
    let x = c.entry-item.result in
    elim c.if-eq.branch [
      | then-eq w ↦ w.said-is
          ∙ walk_own c.args.symbol es i x c.loop-entry.said w.with_rule.result c.loop-entry-test.true c.entry-item.is (sym c.eq.ensures ∙ w.if-eq.true) c.loop-entry.invariant w.with_rule.ensures
      | else-eq w ↦ w.said-is ∙ walk_other c.args.symbol es i x c.loop-entry.said c.loop-entry-test.true c.entry-item.is (sym c.eq.ensures ∙ w.if-eq.false) c.loop-entry.invariant
    ]

pub returns : goal.returns
returns c = walk_end c.args.symbol c.args.entries.now c.loop-entry.entry-index c.loop-entry.said c.loop-entry-test.false c.loop-entry.invariant
