use Rattle.std.proofs.Common.{◌≡◌, List, map, subst}
use Rattle.std.specs.Prelude.{OnOk}
use Rattle.cga_syntax.specs.declared.print.mark.Mark.{Mark}
use Rattle.cga_syntax.proofs.ItemLayers.{subdiv_on, repeat_on}
use Rattle.cga_lexer.specs.declared.sign.Sign.TheVariants as s
use Rattle.cga_syntax.specs.Pieces.{sign, item_pieces, body_pieces}
use Rattle.cga_syntax.proofs.Printed.{each_on, spread_first, spread_on}
use Rattle.cga_syntax.proofs.print.item.+print.Goals as goal

pub push_items-loop-item-preserved : goal.push_items-loop-item-preserved
push_items-loop-item-preserved t c = each_on item_pieces c.loop-item.marks c.args.items.now c.loop-item.item-index c.item-item.result _ _ c.loop-item-test.true c.item-item.is c.loop-item.invariant c.in_ok-push_item.ensures

pub push_all_bodies-loop-body-init : goal.push_all_bodies-loop-body-init
push_all_bodies-loop-body-init t c = spread_first (sign s.Bar) c.args.marks.now (map body_pieces c.args.bodies.now)

pub push_all_bodies-loop-body-preserved : goal.push_all_bodies-loop-body-preserved
push_all_bodies-loop-body-preserved t c = spread_on (sign s.Bar) body_pieces c.loop-body.between c.loop-body.marks c.args.bodies.now c.loop-body.body-index c.body-item.result _ _ _ c.loop-body-test.true c.body-item.is c.loop-body.invariant c.in_ok-push_between.ensures c.in_ok-push_body.ensures

pub push_item-returns-in_ok-push_subdiv-in-Subdiv : goal.push_item-returns-in_ok-push_subdiv-in-Subdiv
push_item-returns-in_ok-push_subdiv-in-Subdiv t c =
    subst (λ (z : List Mark). OnOk c.push_bodies.result (c.push_bodies.new.marks ≡ z))
    (subdiv_on c.args.item.now c.args.marks.now _ c.in-Subdiv.axis _ c.in-Subdiv.sizes _ c.in-Subdiv.bodies c.in-Subdiv.is c.as_slice-in-Subdiv.ensures c.as_slice-in-Subdiv-2.ensures c.in_ok-push_subdiv-in-Subdiv.ensures)
    c.push_bodies.ensures

pub push_item-returns-in_ok-push_repeat-in-Repeat : goal.push_item-returns-in_ok-push_repeat-in-Repeat
push_item-returns-in_ok-push_repeat-in-Repeat t c =
    subst (λ (z : List Mark). OnOk c.push_in_curly.result (c.push_in_curly.new.marks ≡ z))
    (repeat_on c.args.item.now c.args.marks.now _ c.in-Repeat.axis c.in-Repeat.length c.in-Repeat.body c.in-Repeat.is (rw c.get-in-Repeat.ensures at c.in_ok-push_repeat-in-Repeat.ensures))
    c.push_in_curly.ensures
