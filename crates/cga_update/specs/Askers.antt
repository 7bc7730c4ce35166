-- Who asks near what moved.
use Rattle.std.specs.Prelude.{◌≡◌, ℕ, List, Some, IsSome, true, map}
use Rattle.cga_frame.specs.Box.{Box, box_of, meets}
use Rattle.cga_order.specs.World.{Among}
use Rattle.cga_forest.specs.declared.node_change.NodeChange.{NodeChange}
use Rattle.cga_forest.specs.Node.{bounds}
use Rattle.cga_forest.specs.View.{Seen}
use Rattle.cga_forest.specs.Tree.{ForestView, marked_at, node_at}

-- the boxes of nodes that moved
abbrev pub boxes_of : List NodeChange → List Box
boxes_of moved = map (λ (m : NodeChange). box_of m.scope) moved

-- the node is one of these
abbrev pub IsOneOf : List NodeChange → ℕ → Type 0
IsOneOf moved c = (m : NodeChange) × Among m moved × (m.id ≡ c)

-- the node was there at the mark and asks, and its box meets that of one of these
pub record IsAsker (v : ForestView) (moved : List NodeChange) (c : ℕ) : Type 0 where
  pub seen : Seen
  pub there : node_at v c ≡ Some seen
  pub marked : IsSome (marked_at v c)
  pub asks : seen.node.asks ≡ true
  pub one : NodeChange
  pub among : Among one moved
  pub near : meets (bounds seen.node) (box_of one.scope) ≡ true

-- the list has each such node, and no other
pub record ListsAskers (v : ForestView) (moved : List NodeChange) (list : List ℕ) : Type 0 where
  pub all : (c : ℕ) → IsAsker v moved c → Among c list
  pub only : (c : ℕ) → Among c list → IsAsker v moved c

-- the node was there at the mark and asks
pub record IsLasting (v : ForestView) (c : ℕ) : Type 0 where
  pub seen : Seen
  pub there : node_at v c ≡ Some seen
  pub marked : IsSome (marked_at v c)
  pub asks : seen.node.asks ≡ true
