-- Nodes of any content under numbers, and when they are a tree.
use Rattle.std.specs.Prelude.{◌≡◌, ℕ, ◌+◌, ◌≤◌, List, Option, Some, None, slice_get}

-- a node: how many nodes stand above it, the one right above, its place among that one's children, and its own children
pub record Seen (X : Type 0) : Type 0 where
  pub node : X
  pub depth : ℕ
  pub parent : Option ℕ
  pub index : ℕ
  pub children : List ℕ

-- the node under each number, if one is there
abbrev pub View : Type 0 → Type 0
View X = ℕ → Option (Seen X)

module _ {X : Type 0} where
  -- parents and children name each other, and a node without a parent is a root
  pub record IsTree (T : View X) : Type 0 where
    pub down : (id i c : ℕ) (e : Seen X) → T id ≡ Some e → slice_get e.children i ≡ Some c
        → (d : Seen X) × (T c ≡ Some d) × (d.parent ≡ Some id) × (d.depth ≡ e.depth + 1) × (d.index ≡ i)
    pub up : (c p : ℕ) (d : Seen X) → T c ≡ Some d → d.parent ≡ Some p
        → (e : Seen X) × (T p ≡ Some e) × (slice_get e.children d.index ≡ Some c)
    pub shallow : (id : ℕ) (e : Seen X) → T id ≡ Some e → e.depth ≤ 256
    pub at_root : (id : ℕ) (e : Seen X) → T id ≡ Some e → e.parent ≡ None → e.depth ≡ 0
