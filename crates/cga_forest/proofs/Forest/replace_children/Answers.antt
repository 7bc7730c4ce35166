use Rattle.std.proofs.Common.{◌≡◌, ◌∙◌, ℕ, List, Some, sym, ap, subst}
use Rattle.cga_forest.specs.declared.node.Node.{Node}
use Rattle.cga_forest.specs.declared.node.NodeState.{NodeState}
use Rattle.cga_check.specs.Said.{asks_any, said}
use Rattle.cga_forest.specs.View.{Seen, at, present_of}
use Rattle.cga_forest.specs.Tree.{ForestView, IsInner, Replaces, node_at}
use Rattle.cga_forest.specs.Placing.{children_after, state_after}
use Rattle.cga_forest.proofs.Grown.{entry_node, may_grow, path_deep}
use Rattle.cga_forest.proofs.Forest.replace_children.Goals as goal
use Rattle.cga_fraction.proofs.Door.{OnOk-map}

pub replace_with-requires : goal.replace_with-requires
replace_with-requires c =
    let e = c.requires.here.0 in
    let g = c.args.symbols.now in
    let o = c.args.outcome.now in
    let there : node_at c.args.self.now c.slot_of-id.result ≡ Some e = rw c.slot_of-id.ensures c.requires.here.1 in
    let seen : present_of (at c.self.inside.store c.slot_of-id.result) ≡ Some e = ap (λ (v : ForestView). node_at v c.slot_of-id.result) c.self.view_is ∙ there in
    let n : e.node ≡ c.entry.result.now.node = entry_node (at c.self.inside.store c.slot_of-id.result) c.entry.result.now e c.entry.ensures seen in
    let asks = c.asks.ensures ∙ (ap asks_any c.in_ok-said.ensures.value ∙ ap (λ (m : Node). asks_any (said g m.shape.symbol)) (sym n)) in
    let state : record { kind = c.kind_after.result; answers = c.args.answers; asks = c.asks.result } ≡ state_after g e.node c.args.answers o = λ i. record { kind = c.kind_after.ensures i; answers = c.args.answers; asks = asks i } in
    let news : c.in_ok-news.news.items ≡ children_after g e.node o = c.in_ok-news.ensures.made ∙ ap (λ h. children_after h c.entry.result.now.node o) c.of.ensures.grammar ∙ ap (λ (m : Node). children_after g m o) (sym n) in
    let deep = path_deep (λ k. present_of (at c.self.inside.store k)) c.self.invariant.forest.present.tree c.self.invariant.forest.present.places c.slot_of-id.result e seen in
    record {
      here = (e, there, subst (λ (s : NodeState). IsInner e s c.in_ok-news.news.items) (sym state) (subst (λ (l : List Node). IsInner e (state_after g e.node c.args.answers o) l) (sym news) (may_grow g e c.args.answers o deep c.requires.here.2)));
    }

pub returns-clause-replaced : goal.returns-clause-replaced
returns-clause-replaced c = OnOk-map c.replace_with.result _ _ (λ done x t.
    let e = c.requires.here.0 in
    let g = c.args.symbols.now in
    let o = c.args.outcome.now in
    let old = node_at c.args.self.now in
    let new = node_at c.replace_with.new.self in
    let there : node_at c.args.self.now c.slot_of-id.result ≡ Some e = rw c.slot_of-id.ensures c.requires.here.1 in
    let seen : present_of (at c.self.inside.store c.slot_of-id.result) ≡ Some e = ap (λ (v : ForestView). node_at v c.slot_of-id.result) c.self.view_is ∙ there in
    let n : e.node ≡ c.entry.result.now.node = entry_node (at c.self.inside.store c.slot_of-id.result) c.entry.result.now e c.entry.ensures seen in
    let asks = c.asks.ensures ∙ (ap asks_any c.in_ok-said.ensures.value ∙ ap (λ (m : Node). asks_any (said g m.shape.symbol)) (sym n)) in
    let state : record { kind = c.kind_after.result; answers = c.args.answers; asks = c.asks.result } ≡ state_after g e.node c.args.answers o = λ i. record { kind = c.kind_after.ensures i; answers = c.args.answers; asks = asks i } in
    let news : c.in_ok-news.news.items ≡ children_after g e.node o = c.in_ok-news.ensures.made ∙ ap (λ h. children_after h c.entry.result.now.node o) c.of.ensures.grammar ∙ ap (λ (m : Node). children_after g m o) (sym n) in
    let z : Some e ≡ Some x = sym c.requires.here.1 ∙ t in
    let same : e ≡ x = (cc) in
    subst (λ (y : Seen). Replaces old new c.args.node (state_after g y.node c.args.answers o) (children_after g y.node o)) same
    (subst (λ (k : ℕ). Replaces old new k (state_after g e.node c.args.answers o) (children_after g e.node o)) c.slot_of-id.ensures
    (subst (λ (l : List Node). Replaces old new c.slot_of-id.result (state_after g e.node c.args.answers o) l) news
    (subst (λ (s : NodeState). Replaces old new c.slot_of-id.result s c.in_ok-news.news.items) state done)))) c.replace_with.ensures.replaced
