use Rattle.std.proofs.Common.{◌≡◌, List, subst}
use Rattle.std.specs.Prelude.{OnOk}
use Rattle.cga_syntax.specs.declared.print.mark.Mark.{Mark}
use Rattle.cga_syntax.specs.Pieces.{added_pieces, scaled_pieces}
use Rattle.cga_syntax.proofs.Printed.{each_on}
use Rattle.cga_syntax.proofs.Layers.{rand_on}
use Rattle.cga_syntax.proofs.print.expr.+print.Goals as goal

pub push_all_added-loop-more-preserved : goal.push_all_added-loop-more-preserved
push_all_added-loop-more-preserved t c = each_on added_pieces c.loop-more.marks c.args.rest.now c.loop-more.more-index c.more-item.result _ _ c.loop-more-test.true c.more-item.is c.loop-more.invariant c.in_ok-push_added.ensures

pub push_all_scaled-loop-more-preserved : goal.push_all_scaled-loop-more-preserved
push_all_scaled-loop-more-preserved t c = each_on scaled_pieces c.loop-more.marks c.args.rest.now c.loop-more.more-index c.more-item.result _ _ c.loop-more-test.true c.more-item.is c.loop-more.invariant c.in_ok-push_scaled.ensures

pub push_primary-returns-in_ok-push_bound-in-Rand-2 : goal.push_primary-returns-in_ok-push_bound-in-Rand-2
push_primary-returns-in_ok-push_bound-in-Rand-2 t c =
    let e = rand_on c.args.primary.now c.in-Rand.number c.in-Rand.low c.in-Rand.high c.in-Rand.steps c.in-Rand.is
    c.args.marks.now _ _ _ _ _ c.get-in-Rand.ensures c.get-in-Rand-2.ensures c.in_ok-push_opened-in-Rand.ensures c.in_ok-push_bound-in-Rand.ensures c.in_ok-push_bound-in-Rand-2.ensures in
    subst (λ (z : List Mark). OnOk c.push_steps.result (c.push_steps.new.marks ≡ z)) e c.push_steps.ensures
