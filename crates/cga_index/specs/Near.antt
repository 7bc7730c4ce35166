-- Who asks near boxes.
use Rattle.std.specs.Prelude.{◌≡◌, ◌⊎◌, ℕ, List, true}
use Rattle.std.specs.List.{list_any}
use Rattle.cga_frame.specs.Box.{Box, meets}
use Rattle.cga_index.specs.Tree.{InTree, Member, TreeView}

-- the node asks, and its box meets one of the areas
pub record AsksNear (v : TreeView) (areas : List Box) (id : ℕ) : Type 0 where
  pub inside : InTree v id
  pub asks : v.asks id ≡ true
  pub near : list_any (meets (v.own id)) areas ≡ true

-- the node asks, and its box meets one of the areas and one box more
abbrev pub AsksWithin : TreeView → Box → List Box → ℕ → Type 0
AsksWithin v around areas id = AsksNear v areas id × (meets (v.own id) around ≡ true)

-- the list has each node that asks near one of the areas, and no other
pub record ListsNear (v : TreeView) (areas : List Box) (list : List ℕ) : Type 0 where
  pub all : (id : ℕ) → AsksNear v areas id → Member list id
  pub only : (id : ℕ) → Member list id → AsksNear v areas id

-- the list has all that it had and the nodes that P tells, and no other
pub record AddsThese (P : ℕ → Type 0) (old new : List ℕ) : Type 0 where
  pub kept : (id : ℕ) → Member old id → Member new id
  pub all : (id : ℕ) → P id → Member new id
  pub only : (id : ℕ) → Member new id → Member old id ⊎ P id
