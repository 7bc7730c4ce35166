use Rattle.std.proofs.Common.{◌≡◌, ◌∙◌, ℕ, List, [], ◌∷◌, ◌++◌, ap, sym, subst}
use Rattle.cga_order.specs.Head.{IsHead, child_head}
use Rattle.cga_order.proofs.Door.{child_is_head}
use Rattle.cga_shape.specs.declared.shape.Shape.{Shape}
use Rattle.cga_check.specs.Said.{said}
use Rattle.cga_check.specs.declared.said.Said.{Said}
use Rattle.cga_forest.specs.Placing.{child_asks, child_shape}
use Rattle.cga_forest.proofs.SameNode.{same_node}
use Rattle.cga_forest.proofs.placing.child.Goals as goal

pub invariant_of-result : goal.invariant_of-result
invariant_of-result c =
    let parent = c.args.parent.now in
    let own = c.in_ok-said.said.priority in
    let line : c.in_ok-line.line ≡ parent.line ++ own ∷ [] = c.in_ok-line.ensures ∙ ap (λ (l : List ℕ). l ++ own ∷ []) c.as_slice.ensures in
    let head = subst (IsHead (parent.line ++ own ∷ [])) (sym c.head_below.ensures) (child_is_head parent.line parent.head own parent.headed) in
    record { headed = subst (λ (l : List ℕ). IsHead l c.head_below.result) (sym line) head }

pub returns-clause-made : goal.returns-clause-made
returns-clause-made c =
    let g = c.args.symbols.now in
    let parent = c.args.parent.now in
    let told : c.in_ok-said.said ≡ said g (child_shape parent c.args.index c.args.emitted.now).symbol = c.in_ok-said.ensures.value ∙ ap (λ (s : Shape). said g s.symbol) c.in_ok-shape.ensures in
    same_node _ _ c.in_ok-shape.ensures c.child_kind.ensures
    (ap (λ (s : Said). s.priority) told)
    (c.head_below.ensures ∙ ap (λ (s : Said). child_head parent.line parent.head s.priority) told)
    c.unasked.ensures
    (c.child_asks.ensures ∙ ap (λ (s : Said). child_asks s c.args.emitted.now) told)
    (c.in_ok-line.ensures ∙ (ap (λ (l : List ℕ). l ++ c.in_ok-said.said.priority ∷ []) c.as_slice.ensures ∙ ap (λ (s : Said). parent.line ++ s.priority ∷ []) told))
