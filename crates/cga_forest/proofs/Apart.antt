-- In a forest no two nodes have one lot and one path.
use Rattle.std.proofs.Common.{◌≡◌, inl, inr, ℕ, zero, suc, ◌+◌, ◌<◌, length, refl, ap, sym, ◌∙◌, arith}
use Rattle.std.specs.Prelude.{Option, Some, None, slice_get}
use Rattle.cga_fraction.proofs.Door.{cases_Option, same_Some}
use Rattle.cga_order.proofs.Door.{snoc-same}
use Rattle.cga_forest.specs.View.{Seen}
use Rattle.cga_forest.specs.Tree.{ForestView, IsForest, node_at}
use Rattle.cga_forest.specs.Standing.{StandApart}
use Rattle.cga_forest.proofs.Above.{parent_of}
use Rattle.cga_forest.proofs.ByName.{root_to}

module _ (v : ForestView) (f : IsForest v) where
  abbrev T : ℕ → Option Seen
  T = node_at v

  one_root : (x c : ℕ) (a d : Seen) → T x ≡ Some a → T c ≡ Some d → a.parent ≡ None → d.parent ≡ None
      → a.node.shape.lot ≡ d.node.shape.lot → x ≡ c
  one_root x c a d u t top top' lots = same_Some x c (sym (root_to v f a.node.shape.lot x (a, u, top, refl)) ∙ root_to v f a.node.shape.lot c (d, t, top', sym lots))

  -- a node with a parent has another path than a root
  not_root : (x c p : ℕ) (a d : Seen) → T x ≡ Some a → T c ≡ Some d → a.parent ≡ None → d.parent ≡ Some p
      → a.node.shape.path ≡ d.node.shape.path → ⊥
  not_root x c p a d u t top up paths =
      let w = parent_of T f.present.tree f.present.places c p d t up in
      let none : length d.node.shape.path ≡ 0 = ap length (sym paths ∙ (f.present.places.root x a u top).path) in
      omega (arith, w.3)

  apart_within : (n x c : ℕ) (a d : Seen) → length a.node.shape.path < n → T x ≡ Some a → T c ≡ Some d
      → a.node.shape.lot ≡ d.node.shape.lot → a.node.shape.path ≡ d.node.shape.path → x ≡ c
  apart_within zero x c a d deep u t lots paths = absurd (omega arith)
  apart_within (suc n) x c a d deep u t lots paths = elim (cases_Option a.parent) [
    | inl top ↦ elim (cases_Option d.parent) [
      | inl top' ↦ one_root x c a d u t top top' lots
      | inr up ↦ absurd (not_root x c up.0 a d u t top up.1 paths)
    ]
    | inr up ↦ elim (cases_Option d.parent) [
      | inl top ↦ absurd (not_root c x up.0 d a t u top up.1 (sym paths))
      | inr up' ↦ (
          let w = parent_of T f.present.tree f.present.places x up.0 a u up.1 in
          let w' = parent_of T f.present.tree f.present.places c up'.0 d t up'.1 in
          let parts = snoc-same w.0.node.shape.path w'.0.node.shape.path a.index d.index (sym w.2.path ∙ paths ∙ w'.2.path) in
          let parents = apart_within n up.0 up'.0 w.0 w'.0 (omega (arith, w.3)) w.1 w'.1 (sym w.2.lot ∙ lots ∙ w'.2.lot) parts.0 in
          let r = f.present.tree.up x up.0 a u up.1 in
          let r' = f.present.tree.up c up'.0 d t up'.1 in
          let same : r.0 ≡ r'.0 = same_Some r.0 r'.0 (sym r.1 ∙ ap T parents ∙ r'.1) in
          same_Some x c (sym r.2 ∙ ap (λ i. slice_get r.0.children i) parts.1 ∙ ap (λ (e : Seen). slice_get e.children d.index) same ∙ r'.2))
    ]
  ]

  pub stand_apart : StandApart (node_at v)
  stand_apart x c a d = apart_within (length a.node.shape.path + 1) x c a d (omega arith)
