-- The hull that is right by its children's hulls is the least of all at and below the node.
use Rattle.std.proofs.Common.{◌≡◌, inl, inr, ℕ, zero, suc, ◌+◌, ◌<◌, length, true, false, refl, ap, sym, ◌∙◌, arith}
use Rattle.std.specs.Prelude.{Option, Some, None, is_some, not, slice_get, if◌then◌else◌, ◌↔◌, IfSome}
use Rattle.cga_frame.specs.Box.{Box, holds}
use Rattle.cga_forest.specs.declared.node.Node.{Node}
use Rattle.cga_kept_hulls.specs.declared.hulls.Hulls.{Hulls}
use Rattle.cga_forest.specs.Node.{bounds}
use Rattle.cga_kept_hulls.specs.Hull.{over}
use Rattle.cga_forest.specs.Hull.{own_hulls}
use Rattle.cga_forest.specs.View.{Seen}
use Rattle.cga_forest.specs.Tree.{ForestView, IsWhole, under, children_of, node_at, hulls_at, IsLeastHull, IsLeastAsking, NoneAsks}
use Rattle.std.proofs.lemmas.Bool.{cases_Bool as bool_cases}
use Rattle.cga_kept_hulls.proofs.Door.{Every, Asking, Nobody, Probe, probed, opt_holds, alike_probed, over_own, over_child, over_all}
use Rattle.cga_fraction.proofs.Door.{lt-length_from_slice_get_nat as within}
use Rattle.cga_forest.proofs.Walk.{under_cases, under_none, under_self, under_child}

module _ (p : Probe) (T : ℕ → Option Seen) (H : ℕ → Option Hulls) (whole : IsWhole T H) where
  right_is : (id : ℕ) (e : Seen) (h : Hulls) → T id ≡ Some e → H id ≡ Some h
      → probed p h ≡ probed p (over H (own_hulls e.node) e.children (length e.children))
  right_is id e h t g =
      let r = whole.right id e t in
      let z : Some h ≡ Some r.0 = sym g ∙ r.1 in
      let y : h ≡ r.0 = (cc) in
      ap (probed p) y ∙ alike_probed p r.0 (over H (own_hulls e.node) e.children (length e.children)) r.2

  pub below_each : (n id c : ℕ) (e d : Seen) (h : Hulls) → T id ≡ Some e → H id ≡ Some h → probed p h ≡ true
      → under (λ k. children_of (T k)) n id c ≡ true → T c ≡ Some d → probed p (own_hulls d.node) ≡ true
  below_each zero id c e d h t g on u w = let z = under_none (λ k. children_of (T k)) id c in absurd (cc)
  below_each (suc n) id c e d h t g on u w =
      let all : probed p (over H (own_hulls e.node) e.children (length e.children)) ≡ true = sym (right_is id e h t g) ∙ on in
      elim (under_cases (λ k. children_of (T k)) n id c u) [
        | inl s ↦ (let z : Some e ≡ Some d = sym t ∙ ap T s ∙ w in let y : e ≡ d = (cc) in
            ap (λ (x : Seen). probed p (own_hulls x.node)) (sym y) ∙ over_own p H (own_hulls e.node) e.children (length e.children) all)
        | inr v ↦ (
            let at : slice_get e.children v.0 ≡ Some v.1 = ap (λ o. slice_get (children_of o) v.0) (sym t) ∙ v.2 in
            let r = whole.tree.down id v.0 v.1 e t at in
            let k = whole.right v.1 r.0 r.1 in
            below_each n v.1 c r.0 d k.0 r.1 k.1 (over_child p H (own_hulls e.node) e.children (length e.children) all v.0 v.1 k.0 (within e.children v.0 v.1 at) at k.1) v.3 w)
      ]

  pub from_below : (n id : ℕ) (e : Seen) (h : Hulls) → T id ≡ Some e → H id ≡ Some h → 256 < e.depth + n
      → ((c : ℕ) (d : Seen) → under (λ k. children_of (T k)) n id c ≡ true → T c ≡ Some d
      → probed p (own_hulls d.node) ≡ true)
      → probed p h ≡ true
  from_below zero id e h t g deep all = let s = whole.tree.shallow id e t in absurd (omega arith)
  from_below (suc n) id e h t g deep all = right_is id e h t g ∙ over_all p H (own_hulls e.node) e.children (length e.children)
      (all id e (under_self (λ k. children_of (T k)) (suc n) id (omega arith)) t)
      (λ i k j at w.
      let r = whole.tree.down id i k e t at in let dd = r.3 in
      from_below n k r.0 j r.1 w (omega arith) (λ c d u x. all c d (under_child (λ k. children_of (T k)) n id i k c (ap (λ o. slice_get (children_of o) i) t ∙ at) u) x))

pub least_all : (v : ForestView) (id : ℕ) (e : Seen) (h : Hulls) → IsWhole (node_at v) (hulls_at v)
    → node_at v id ≡ Some e → hulls_at v id ≡ Some h → IsLeastHull v id h.all
least_all v id e h whole t g b = (
  (λ on c d u w. below_each (Every b) (node_at v) (hulls_at v) whole 257 id c e d h t g on u w),
  (λ all. from_below (Every b) (node_at v) (hulls_at v) whole 257 id e h t g (omega arith) all),
)

pub own_asks : (b : Box) (n : Node) → opt_holds b (own_hulls n).asking ≡ true → n.asks ≡ true
    → holds b (bounds n) ≡ true
own_asks b n t on = ap (λ a. opt_holds b (if a then Some (bounds n) else None)) (sym on) ∙ t

asks_own : (b : Box) (n : Node) → (n.asks ≡ true → holds b (bounds n) ≡ true) → opt_holds b (own_hulls n).asking ≡ true
asks_own b n t = elim (bool_cases n.asks) [
  | inl y ↦ ap (λ a. opt_holds b (if a then Some (bounds n) else None)) y ∙ t y
  | inr ne ↦ ap (λ a. opt_holds b (if a then Some (bounds n) else None)) ne
]

pub least_asking : (v : ForestView) (id : ℕ) (e : Seen) (h : Hulls) (a : Box) → IsWhole (node_at v) (hulls_at v)
    → node_at v id ≡ Some e → hulls_at v id ≡ Some h → h.asking ≡ Some a → IsLeastAsking v id a
least_asking v id e h a whole t g q b = (
  (λ on c d u w asks. own_asks b d.node (below_each (Asking b) (node_at v) (hulls_at v) whole 257 id c e d h t g (ap (opt_holds b) q ∙ on) u w) asks),
  (λ all. ap (opt_holds b) (sym q) ∙ from_below (Asking b) (node_at v) (hulls_at v) whole 257 id e h t g (omega arith) (λ c d u w. asks_own b d.node (all c d u w))),
)

pub own_none : (n : Node) → not (is_some (own_hulls n).asking) ≡ true → n.asks ≡ false
own_none n t = elim (bool_cases n.asks) [
  | inl y ↦ (let z : false ≡ true = ap (λ a. not (is_some (if a then Some (bounds n) else None))) (sym y) ∙ t in absurd (cc))
  | inr ne ↦ ne
]

none_own : (n : Node) → n.asks ≡ false → not (is_some (own_hulls n).asking) ≡ true
none_own n ne = ap (λ a. not (is_some (if a then Some (bounds n) else None))) ne

pub none_is : {X : Type 0} (o : Option X) → not (is_some o) ≡ true → o ≡ None
none_is None h = refl
none_is (Some x) h = absurd (cc)

pub none_asking : (v : ForestView) (id : ℕ) (e : Seen) (h : Hulls) → IsWhole (node_at v) (hulls_at v)
    → node_at v id ≡ Some e → hulls_at v id ≡ Some h → (h.asking ≡ None) ↔ NoneAsks v id
none_asking v id e h whole t g = (
  (λ q c d u w. own_none d.node (below_each Nobody (node_at v) (hulls_at v) whole 257 id c e d h t g (ap (λ o. not (is_some o)) q) u w)),
  (λ all. none_is h.asking (from_below Nobody (node_at v) (hulls_at v) whole 257 id e h t g (omega arith) (λ c d u w. none_own d.node (all c d u w)))),
)

pub least_asking_if : (v : ForestView) (id : ℕ) (e : Seen) (h : Hulls) → IsWhole (node_at v) (hulls_at v)
    → node_at v id ≡ Some e → hulls_at v id ≡ Some h → (o : Option Box) → h.asking ≡ o
    → IfSome o (λ a. IsLeastAsking v id a)
least_asking_if v id e h whole t g None q = tt
least_asking_if v id e h whole t g (Some a) q = least_asking v id e h a whole t g q
