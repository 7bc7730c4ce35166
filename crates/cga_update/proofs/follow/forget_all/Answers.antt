use Rattle.std.proofs.Common.{◌≡◌, ap, sym, ◌∙◌, arith}
use Rattle.cga_fraction.proofs.Door.{same_Some, slice_get_from_get_or}
use Rattle.cga_order.proofs.Door.{Among-index}
use Rattle.cga_forest.specs.declared.node_change.NodeChange.{NodeChange}
use Rattle.cga_queue.proofs.Door.{first_each, first_next}
use Rattle.cga_update.proofs.follow.forget_all.Goals as goal

pub loop-moved-init : goal.loop-moved-init
loop-moved-init c = λ k is. (is, λ j m lt. absurd (omega (arith, lt)))

pub loop-moved-preserved : goal.loop-moved-preserved
loop-moved-preserved c = λ k is.
    let removed = c.args.removed.now in
    let n = c.loop-moved.moved-index in
    let one = c.moved-item.result in
    let at = slice_get_from_get_or removed n one c.loop-moved-test.true c.moved-item.is in
    let left = c.forget.ensures k is in
    let before = c.loop-moved.invariant k left.1 in (
      before.0,
      first_next (λ (m : NodeChange). m.id ≡ k → ⊥) (λ (m : NodeChange). m.id ≡ k → ⊥) removed n (λ m not. not)
          (λ m there e. left.0 (sym (ap (λ (x : NodeChange). x.id) (same_Some one m (sym at ∙ there)) ∙ e))) before.1,
    )

pub returns : goal.returns
returns c = λ k is.
    let removed = c.args.removed.now in
    let kept = c.loop-moved.invariant k is in (
      kept.0,
      λ one.
          let at = Among-index removed one.0 one.1 in
          first_each (λ (m : NodeChange). m.id ≡ k → ⊥) removed c.loop-moved.moved-index c.loop-moved-test.false kept.1 at.0 one.0 at.1 one.2,
    )
