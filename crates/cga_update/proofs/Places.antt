-- Where the nodes of a forest stand: one node at a place, and ancestors by their paths.
use Rattle.std.proofs.Common.{◌≡◌, inl, inr, ℕ, zero, suc, ◌+◌, ◌<◌, [], ◌∷◌, length, true, refl, ap, sym, ◌∙◌, arith, length-append}
use Rattle.std.specs.Prelude.{Option, Some, None, slice_get}
use Rattle.cga_fraction.proofs.Door.{cases_Option as option_cases, same_Some as some_same}
use Rattle.cga_forest.specs.Node.{IsBelow, IsTop}
use Rattle.cga_forest.specs.View.{Seen}
use Rattle.cga_forest.specs.Standing.{IsOnPath, is_above}
use Rattle.cga_forest.proofs.Door.{above_path, path_above, stand_apart}
use Rattle.cga_forest.specs.Tree.{ForestView, IsForest, node_at}

module _ (v : ForestView) (f : IsForest v) where
  abbrev T : ℕ → Option Seen
  T = node_at v

  -- the parent of a node, which stands right below it
  pub parent_of : (c p : ℕ) (d : Seen) → T c ≡ Some d → d.parent ≡ Some p
      → (e : Seen) × (T p ≡ Some e) × (d.depth ≡ e.depth + 1) × (slice_get e.children d.index ≡ Some c)
      × IsBelow e.node d.index d.node
  parent_of c p d t up =
      let u = f.present.tree.up c p d t up in
      let w = f.present.tree.down p d.index c u.0 u.1 u.2 in
      let same : w.0 ≡ d = some_same w.0 d (sym w.1 ∙ t) in
      (u.0, u.1, ap (λ (x : Seen). x.depth) (sym same) ∙ w.3, u.2, f.present.places.child c p d u.0 t up u.1)

  pub top_of : (c : ℕ) (d : Seen) → T c ≡ Some d → d.parent ≡ None → IsTop d.node
  top_of c d t top = f.present.places.root c d t top

  top_size : (c n : ℕ) (d : Seen) → T c ≡ Some d → d.parent ≡ None → d.depth ≡ n → length d.node.shape.path ≡ n
  top_size c n d t top deep =
      let z = f.present.tree.at_root c d t top in
      let p : length d.node.shape.path ≡ 0 = ap length (top_of c d t top).path in
      omega (arith, z, p, deep)

  -- a path is as long as the node is deep
  pub sized : (n c : ℕ) (d : Seen) → T c ≡ Some d → d.depth ≡ n → length d.node.shape.path ≡ n
  sized zero c d t deep = elim (option_cases d.parent) [
    | inl top ↦ top_size c 0 d t top deep
    | inr up ↦ (let u = parent_of c up.0 d t up.1 in let x = u.2 in absurd (omega (arith, x, deep)))
  ]
  sized (suc m) c d t deep = elim (option_cases d.parent) [
    | inl top ↦ top_size c (suc m) d t top deep
    | inr up ↦ (
        let u = parent_of c up.0 d t up.1 in
        let x = u.2 in
        let less : u.0.depth ≡ m = omega (arith, x, deep) in
        let r = sized m up.0 u.0 u.1 less in
        let a : length d.node.shape.path ≡ length u.0.node.shape.path + 1 = ap length u.4.path ∙ length-append u.0.node.shape.path (d.index ∷ []) in
        omega (arith, a, r))
  ]

  abbrev pub SamePlaces : Seen → Seen → Type 0
  SamePlaces d e = (d.node.shape.lot ≡ e.node.shape.lot) × (d.node.shape.path ≡ e.node.shape.path)

  -- one node at a place
  pub same_node : (c b : ℕ) (d e : Seen) → T c ≡ Some d → T b ≡ Some e → SamePlaces d e → (c ≡ b) × (d ≡ e)
  same_node c b d e t u same =
      let q = stand_apart v f c b d e t u same.0 same.1 in
      (q, some_same d e (sym t ∙ ap T q ∙ u))

  -- what stands on the path of a node is above it
  pub above_by_path : (x c : ℕ) (a d : Seen) → d.depth < 257 → T x ≡ Some a → T c ≡ Some d → IsOnPath a.node d.node
      → is_above T 257 x c ≡ true
  above_by_path x c a d shallow u t on =
      let size = sized d.depth c d t refl in
      path_above T f.present.tree f.present.places (stand_apart v f) 257 x c a d (omega (arith, size, shallow)) u t on

  -- and what is above it stands there
  pub path_by_above : (x c : ℕ) (a d : Seen) → T x ≡ Some a → T c ≡ Some d → is_above T 257 x c ≡ true
      → IsOnPath a.node d.node
  path_by_above x c a d u t up = above_path T f.present.tree f.present.places 257 x c a d u t up
