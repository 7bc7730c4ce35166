-- The record of a turn, from the nodes that went and came.
use Rattle.std.specs.Prelude.{◌≡◌, ◌↔◌, ℕ, List, Some, None}
use Rattle.cga_tree.specs.Tree.{Seen, View}
use Rattle.cga_order.specs.World.{Among}
use Rattle.cga_order.specs.declared.placed.Kind.TheVariants.{Instance}
use Rattle.cga_order.specs.Once.{Once}
use Rattle.cga_agenda.specs.Record.{Drawn}
use Rattle.cga_rework.specs.Ranked.{Ranked}
use Rattle.cga_rework.specs.Nodes.{Content, ranked_of}

-- the instances of the one view under numbers that name no node of the other, each once
pub record ListsLost {X S A F P : Type 0} (content : Content X S A F P) (V T : View X) (list : List (Drawn (Ranked S) P)) : Type 0 where
  pub once : Once list
  pub each : (x : Drawn (Ranked S) P) → Among x list ↔ ((c : ℕ) × (d : Seen X) × (V c ≡ Some d) × (T c ≡ None)
      × (ranked_of content d.node ≡ x.shape) × (content.kind d.node ≡ Instance x.solid))
