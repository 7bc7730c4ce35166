use Rattle.std.proofs.Common.{◌≡◌, map, drop}
use Rattle.cga_expr.specs.Names.{seen}
use Rattle.cga_expand.specs.Walk.{in_turn, item_walk, body_walk, over_body, over_bodies}
use Rattle.cga_expand.proofs.walk.+walk.Given as goal

abbrev pub invariant-walk_items-loop-item : goal.invariant-walk_items-loop-item
invariant-walk_items-loop-item l = in_turn (map item_walk (drop l.item-index l.items)) (seen l.names) l.state ≡ in_turn (map item_walk l.fn.items) (seen l.fn.names) l.fn.state

abbrev pub invariant-walk_parts-loop-part : goal.invariant-walk_parts-loop-part
invariant-walk_parts-loop-part l = over_body (body_walk l.body) (drop l.part-index l.parts) (seen l.names) l.state ≡ over_body (body_walk l.fn.body) l.fn.parts (seen l.fn.names) l.fn.state

abbrev pub invariant-walk_each-loop-body : goal.invariant-walk_each-loop-body
invariant-walk_each-loop-body l = over_bodies (map body_walk (drop l.body-index l.bodies)) l.rest (seen l.names) l.state ≡ over_bodies (map body_walk l.fn.bodies) l.fn.parts (seen l.fn.names) l.fn.state
