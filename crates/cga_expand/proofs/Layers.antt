-- One layer of what the items of a successor do.
use Rattle.std.proofs.Common.{◌≡◌, subst, ℕ, List, map, ap, sym, ◌∙◌, Result}
use Rattle.cga_word.specs.declared.axis.Axis.{Axis}
use Rattle.cga_word.specs.declared.turn.Turn.{Turn}
use Rattle.cga_word.specs.declared.selector.Selector.{Selector}
use Rattle.cga_word.specs.declared.primitive.Primitive.{Primitive}
use Rattle.cga_fraction.specs.declared.stop.Stop.{Stop}
use Rattle.cga_rule.specs.declared.expr.Expr.{Expr}
use Rattle.cga_rule.specs.declared.item.Size.{Size}
use Rattle.cga_rule.specs.declared.item.Item.{Item}
use Rattle.cga_rule.specs.declared.item.Body.{Body, out-Body}
use Rattle.cga_rule.specs.declared.item.Item.TheVariants as item
use Rattle.cga_rule.specs.declared.item.Item.TheFolds.{fold-roll-Item, fold_out-Body}
use Rattle.cga_rule.specs.declared.item.Item.TheOpen as layer
use Rattle.cga_shape.specs.declared.shape_fault.ShapeFault.{ShapeFault}
use Rattle.cga_expr.specs.Names.{Known}
use Rattle.cga_expand.specs.declared.progress.Progress.{Progress}
use Rattle.cga_expand.specs.Stops.{Gives}
use Rattle.cga_expand.specs.Walk.{Walk, item_step, body_step, item_walk, body_walk, in_turn}

pub at_state : {m n : Walk} → m ≡ n → (k : Known) (s : Progress) → m k s ≡ n k s
at_state e k s = ap (λ (m : Walk). m k s) e

pub at_item : {i j : Item} → i ≡ j → (k : Known) (s : Progress) → item_walk i k s ≡ item_walk j k s
at_item e k s = ap (λ i. item_walk i k s) e

pub gives_at : (r r' : Result Progress ShapeFault) (new : Progress) (result : Result (Unit {0}) (Stop ShapeFault))
    → r' ≡ r
    → Gives r new result → Gives r' new result
gives_at r r' new result e g = subst (λ r. Gives r new result) (sym e) g

-- a body does what its items do, one after the other
pub body_layer : (b : Body) → body_walk b ≡ in_turn (map item_walk (out-Body b).items)
unfolding body_walk item_walk
body_layer b = fold_out-Body Walk Walk item_step body_step b

pub item_Scoped : (items : List Item) → item_walk (item.Scoped items) ≡ item_step (layer.Scoped (map item_walk items))
unfolding item_walk body_walk
item_Scoped items = ap item_walk (sym (item.rolls-Scoped items)) ∙ fold-roll-Item Walk Walk item_step body_step (layer.Scoped items)

pub item_Move : (x y z : Expr) → item_walk (item.Move x y z) ≡ item_step (layer.Move x y z)
unfolding item_walk body_walk
item_Move x y z = ap item_walk (sym (item.rolls-Move x y z)) ∙ fold-roll-Item Walk Walk item_step body_step (layer.Move x y z)

-- a change of size does what the step for its three sizes does
pub item_Resize : (x y z : Size) → item_walk (item.Resize x y z) ≡ item_step (layer.Resize x y z)
unfolding item_walk body_walk
item_Resize x y z = ap item_walk (sym (item.rolls-Resize x y z)) ∙ fold-roll-Item Walk Walk item_step body_step (layer.Resize x y z)

pub item_Rotate : (axis : Axis) (by : Turn) → item_walk (item.Rotate axis by) ≡ item_step (layer.Rotate axis by)
unfolding item_walk body_walk
item_Rotate axis by = ap item_walk (sym (item.rolls-Rotate axis by)) ∙ fold-roll-Item Walk Walk item_step body_step (layer.Rotate axis by)

pub item_Solid : (p : Primitive) → item_walk (item.Solid p) ≡ item_step (layer.Solid p)
unfolding item_walk body_walk
item_Solid p = ap item_walk (sym (item.rolls-Solid p)) ∙ fold-roll-Item Walk Walk item_step body_step (layer.Solid p)

pub item_Subdiv : (axis : Axis) (sizes : List Size) (bodies : List Body)
    → item_walk (item.Subdiv axis sizes bodies) ≡ item_step (layer.Subdiv axis sizes (map body_walk bodies))
unfolding item_walk body_walk
item_Subdiv axis sizes bodies = ap item_walk (sym (item.rolls-Subdiv axis sizes bodies)) ∙ fold-roll-Item Walk Walk item_step body_step (layer.Subdiv axis sizes bodies)

pub item_Repeat : (axis : Axis) (length : Expr) (body : Body)
    → item_walk (item.Repeat axis length body) ≡ item_step (layer.Repeat axis length (body_walk body))
unfolding item_walk body_walk
item_Repeat axis length body = ap item_walk (sym (item.rolls-Repeat axis length body)) ∙ fold-roll-Item Walk Walk item_step body_step (layer.Repeat axis length body)

pub item_Comp : (selector : Selector) (body : Body)
    → item_walk (item.Comp selector body) ≡ item_step (layer.Comp selector (body_walk body))
unfolding item_walk body_walk
item_Comp selector body = ap item_walk (sym (item.rolls-Comp selector body)) ∙ fold-roll-Item Walk Walk item_step body_step (layer.Comp selector body)

-- a child does what the step for its symbol and arguments does
pub item_Child : (symbol : List ℕ) (args : List Expr)
    → item_walk (item.Child symbol args) ≡ item_step (layer.Child symbol args)
unfolding item_walk body_walk
item_Child symbol args = ap item_walk (sym (item.rolls-Child symbol args)) ∙ fold-roll-Item Walk Walk item_step body_step (layer.Child symbol args)

pub ruleset layers = (body_layer, item_Scoped, item_Move, item_Resize, item_Rotate, item_Solid, item_Subdiv, item_Repeat, item_Comp, item_Child)
