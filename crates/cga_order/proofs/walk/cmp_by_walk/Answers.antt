use Rattle.std.proofs.Common.{◌≡◌, ℕ, ◌+◌, ◌-◌, ◌<◌, ◌∙◌, sym, ap, arith, Option}
use Rattle.cga_word.specs.declared.mode.Mode.{Mode}
use Rattle.std.specs.declared.cmp.Ordering.{Ordering}
use Rattle.std.specs.Ordering.{ordering_then}
use Rattle.cga_order.specs.Chain.{Chain, IsWhole}
use Rattle.cga_order.specs.Seen.{chain_of}
use Rattle.cga_order.specs.Walk.{IsTop, tops_cmp}
use Rattle.cga_order.proofs.Tops.{order_from, stamps_cmp-step, order_from-all, IsTop-pred, IsWithin-from_IsTop}
use Rattle.cga_order.proofs.walk.cmp_by_walk.Goals as goal

pred-one : (depth : ℕ) → 0 < depth → depth ≡ (depth - 1) + 1
pred-one depth h = omega arith

pub cmp_tops-requires-clause-left : goal.cmp_tops-requires-clause-left
cmp_tops-requires-clause-left c =
    IsWithin-from_IsTop c.args.mode (chain_of c.args.a.now) _ _
    (c.top-left.ensures c.args.mode c.requires.left (IsTop-pred _ _ _ _ c.loop-depth-test.true c.loop-depth.invariant.1))

pub cmp_tops-requires-clause-right : goal.cmp_tops-requires-clause-right
cmp_tops-requires-clause-right c =
    IsWithin-from_IsTop c.args.mode (chain_of c.args.b.now) _ _
    (c.top-right.ensures c.args.mode c.requires.right (IsTop-pred _ _ _ _ c.loop-depth-test.true c.loop-depth.invariant.2))

-- the order after a step, from what the calls gave
order_from-pred : (mode : Mode) (a b : Chain) (depth : ℕ) (left right : Option ℕ) (tops order result : Ordering)
    → IsWhole a → IsWhole b → 0 < depth → IsTop mode a (depth - 1) left → IsTop mode b (depth - 1) right
    → tops ≡ tops_cmp mode a left b right → order ≡ order_from mode a b depth → result ≡ ordering_then tops order
    → result ≡ order_from mode a b (depth - 1)
order_from-pred mode a b depth left right tops order result whole_a whole_b h l r t o e =
    e
    ∙ ap (λ x. ordering_then x order) t
    ∙ ap (ordering_then (tops_cmp mode a left b right)) (o ∙ ap (order_from mode a b) (pred-one depth h))
    ∙ sym (stamps_cmp-step mode a b (depth - 1) left right whole_a whole_b l r)

pub loop-depth-preserved : goal.loop-depth-preserved
loop-depth-preserved c =
    let a = chain_of c.args.a.now in
    let b = chain_of c.args.b.now in
    let left = c.top-left.ensures c.args.mode c.requires.left (IsTop-pred _ _ _ _ c.loop-depth-test.true c.loop-depth.invariant.1) in
    let right = c.top-right.ensures c.args.mode c.requires.right (IsTop-pred _ _ _ _ c.loop-depth-test.true c.loop-depth.invariant.2) in
    (order_from-pred c.args.mode a b c.loop-depth.depth c.top-left.result c.top-right.result c.cmp_tops.result c.loop-depth.order c.then-order.result c.requires.left c.requires.right c.loop-depth-test.true left right c.cmp_tops.ensures c.loop-depth.invariant.0 c.then-order.ensures, left, right)

pub returns : goal.returns
returns c =
    let a = chain_of c.args.a.now in
    let b = chain_of c.args.b.now in
    let root : c.loop-depth.depth ≡ 0 = omega (arith, c.loop-depth-test.false) in
    c.loop-depth.invariant.0 ∙ ap (order_from c.args.mode a b) root ∙ order_from-all c.args.mode a b c.requires.left c.requires.right
