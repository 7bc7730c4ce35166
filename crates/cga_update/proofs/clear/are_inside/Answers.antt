use Rattle.std.proofs.Common.{◌≡◌, ap, sym, ◌∙◌, subst, arith}
use Rattle.cga_fraction.proofs.Door.{same_Some, slice_get_from_get_or}
use Rattle.cga_frame.specs.Box.{Box, box_of}
use Rattle.cga_index.specs.Around.{IsWider}
use Rattle.cga_order.proofs.Door.{Among-index}
use Rattle.cga_forest.specs.declared.node_change.NodeChange.{NodeChange}
use Rattle.cga_queue.proofs.Door.{first_each, first_next}
use Rattle.cga_update.proofs.clear.are_inside.Goals as goal

pub loop-node-init : goal.loop-node-init
loop-node-init c = λ j m lt. absurd (omega (arith, lt))

pub loop-node-preserved : goal.loop-node-preserved
loop-node-preserved c =
    let moved = c.args.moved.now in
    let area = c.args.area.now in
    let n = c.loop-node.node-index in
    let one = c.node-item.result in
    let at = slice_get_from_get_or moved n one c.loop-node-test.true c.node-item.is in
    first_next (λ (m : NodeChange). IsWider (box_of m.scope) area) (λ (m : NodeChange). IsWider (box_of m.scope) area) moved n (λ m is. is)
    (λ m there. subst (λ (x : NodeChange). IsWider (box_of x.scope) area) (same_Some one m (sym at ∙ there))
    (subst (λ (b : Box). IsWider b area) c.bounds.ensures (c.is_inside.ensures c.if-not-is_inside.false)))
    c.loop-node.invariant

pub returns : goal.returns
returns c = λ is m among.
    let at = Among-index c.args.moved.now m among in
    first_each (λ (x : NodeChange). IsWider (box_of x.scope) c.args.area.now) c.args.moved.now c.loop-node.node-index c.loop-node-test.false c.loop-node.invariant at.0 m at.1
