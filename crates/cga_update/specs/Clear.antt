-- A box near which nobody of the mark asks.
use Rattle.std.specs.Prelude.{◌≡◌, ℕ, List, Option, Some, IsSome, true}
use Rattle.cga_frame.specs.Box.{Box, box_of, meets}
use Rattle.cga_index.specs.Around.{IsWider}
use Rattle.cga_order.specs.World.{Among}
use Rattle.cga_forest.specs.declared.change.Change.{Change}
use Rattle.cga_forest.specs.declared.node_change.NodeChange.{NodeChange}
use Rattle.cga_forest.specs.Node.{bounds}
use Rattle.cga_forest.specs.View.{Seen}
use Rattle.cga_forest.specs.Tree.{ForestView, marked_at, node_at}
use Rattle.cga_update.specs.Askers.{IsAsker}

-- no node of the mark that asks meets the box
abbrev pub MeetsNobody : ForestView → Box → Type 0
MeetsNobody v area =
    (c : ℕ) (d : Seen) → node_at v c ≡ Some d → IsSome (marked_at v c) → d.node.asks ≡ true
    → meets (bounds d.node) area ≡ true → ⊥

-- nor the one that is known, if any is
abbrev pub IsClear : ForestView → Option Box → Type 0
IsClear v clear = (area : Box) → clear ≡ Some area → MeetsNobody v area

-- nobody of the mark asks near one of these
abbrev pub AsksNobody : ForestView → List NodeChange → Type 0
AsksNobody v moved = (c : ℕ) → IsAsker v moved c → ⊥

-- the box, if any, is clear, and nobody asks near one of these
pub record IsClearRound (v : ForestView) (moved : List NodeChange) (known : Option Box) : Type 0 where
  pub clear : IsClear v known
  pub nobody : IsSome known → AsksNobody v moved

-- the boxes of these lie inside it, and reach no side of it
abbrev pub AreInside : List NodeChange → Box → Type 0
AreInside moved area = (m : NodeChange) → Among m moved → IsWider (box_of m.scope) area

-- all that the change removed and created does
pub record LiesInside (change : Change) (clear : Option Box) : Type 0 where
  pub area : Box
  pub is : clear ≡ Some area
  pub removed : AreInside change.removed area
  pub created : AreInside change.created area

-- the box is still known, and the node wasn't there at the mark
pub record StaysClear (v : ForestView) (id : ℕ) (old : Option Box) (area : Box) : Type 0 where
  pub was : old ≡ Some area
  pub unmarked : IsSome (marked_at v id) → ⊥
