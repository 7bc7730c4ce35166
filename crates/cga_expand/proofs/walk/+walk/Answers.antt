use Rattle.std.proofs.Common.{◌∙◌}
use Rattle.std.proofs.lemmas.Result.{err_from_is_err_and}
use Rattle.cga_expr.specs.Names.{seen}
use Rattle.cga_expand.specs.Walk.{body_walk}
use Rattle.cga_expand.proofs.Turns.{items_on, items_stops, body_on, bodies_end}
use Rattle.cga_expand.proofs.Layers.{gives_at, at_item, at_state, item_Subdiv, item_Repeat, item_Comp}
use Rattle.cga_expand.proofs.walk.+walk.Goals as goal

pub walk_items-loop-item-preserved : goal.walk_items-loop-item-preserved
walk_items-loop-item-preserved t c =
    items_on _ _ _ c.item-item.result _ c.loop-item-test.true c.item-item.is _ _ (c.in_ok-walk_item.ensures {u = tt}) c.loop-item.invariant

pub walk_items-returns-in_err-walk_item : goal.walk_items-returns-in_err-walk_item
walk_items-returns-in_err-walk_item t c =
    let p = err_from_is_err_and c.from_residual.result c.from_residual.ensures.1 in
    rw (p.1, p.2) (items_stops _ _ _ c.item-item.result _ c.loop-item-test.true c.item-item.is c.in_err-walk_item.field-0.0 _ (c.in_err-walk_item.ensures {u = tt}) c.loop-item.invariant)

pub walk_parts-loop-part-preserved : goal.walk_parts-loop-part-preserved
walk_parts-loop-part-preserved t c =
    body_on (seen c.args.names.now) (body_walk c.args.body.now) _ _ c.part-item.result c.loop-part.state c.loop-part-test.true c.part-item.is _ _
    (c.in_ok-walk_body.ensures {u = tt}) c.loop-part.invariant

pub walk_each-returns : goal.walk_each-returns
walk_each-returns t c = bodies_end _ c.loop-body.rest.now _ _ _ _ c.loop-body-test.false c.loop-body.invariant

pub walk_item-returns-in-Subdiv : goal.walk_item-returns-in-Subdiv
walk_item-returns-in-Subdiv t c = gives_at _ _ _ _ (at_item c.in-Subdiv.is _ _ ∙ at_state (item_Subdiv c.in-Subdiv.axis c.in-Subdiv.sizes c.in-Subdiv.bodies) _ _) c.walk_subdiv.ensures

pub walk_item-returns-in-Repeat : goal.walk_item-returns-in-Repeat
walk_item-returns-in-Repeat t c = gives_at _ _ _ _ (at_item c.in-Repeat.is _ _ ∙ at_state (item_Repeat c.in-Repeat.axis c.in-Repeat.length c.in-Repeat.body) _ _) (rw c.get-in-Repeat.ensures at c.walk_repeat.ensures)

pub walk_item-returns-in-Comp : goal.walk_item-returns-in-Comp
walk_item-returns-in-Comp t c = gives_at _ _ _ _ (at_item c.in-Comp.is _ _ ∙ at_state (item_Comp c.in-Comp.selector c.in-Comp.body) _ _) c.walk_comp.ensures
