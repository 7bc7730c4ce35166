-- What the nodes of a kept tree hold, whatever they are, and the list of nodes that a view of the tree is.
use Rattle.std.specs.Prelude.{◌≡◌, ℕ, zero, suc, ◌<◌, List, [], ◌∷◌, Option, Some, None, Bool}
use Rattle.cga_tree.specs.Tree.{Seen, View}
use Rattle.cga_order.specs.Chain.{Chain}
use Rattle.cga_order.specs.Stamp.{stamp_cmp}
use Rattle.std.specs.declared.cmp.Ordering.TheVariants.{Less}
use Rattle.cga_order.specs.declared.placed.Placed.{Placed}
use Rattle.cga_order.specs.declared.placed.Kind.{Kind}
use Rattle.cga_order.specs.Agenda.{Node}
use Rattle.cga_rework.specs.Rules.{Shapes}
use Rattle.cga_rework.specs.Ranked.{Ranked}

-- what a node X holds
pub record Content (X S A F P : Type 0) : Type 0 where
  pub shape : X → S
  -- the bytes of its symbol's name
  pub symbol : X → List ℕ
  -- that of its symbol, when it was placed
  pub priority : X → ℕ
  -- the kept priorities from its root down, its own the last
  pub line : X → List ℕ
  pub kind : X → Kind F P
  pub answers : X → A
  -- whether it is among those that ask
  pub asks : X → Bool

-- the key of a ranked shape: its lot, its path and the priorities on it, as they were kept
abbrev pub key_of : {S : Type 0} → Shapes S → Ranked S → Chain
key_of shapes n = record { lot = shapes.lot n.shape; path = shapes.path n.shape; priorities = n.priorities }

module _ {X S A F P : Type 0} (content : Content X S A F P) where
  abbrev pub ranked_of : X → Ranked S
  ranked_of x = record { shape = content.shape x; priorities = content.line x }

  abbrev pub placed_of : X → Placed S F P
  placed_of x = record { shape = content.shape x; kind = content.kind x }

  abbrev pub node_of : X → Node (Ranked S) A F P
  node_of x = record { shape = ranked_of x; kind = content.kind x; answers = content.answers x }

  abbrev pub with_node : Option (Seen X) → List (Node (Ranked S) A F P) → List (Node (Ranked S) A F P)
  with_node None rest = rest
  with_node (Some d) rest = node_of d.node ∷ rest

  -- the nodes under the numbers below a bound
  unfoldable pub nodes_of : View X → ℕ → List (Node (Ranked S) A F P)
  nodes_of T zero = []
  nodes_of T (suc n) = with_node (T n) (nodes_of T n)

  -- the key of what a node holds
  abbrev pub kept_key : Shapes S → X → Chain
  kept_key shapes x = key_of shapes (ranked_of x)

  -- by the kept priorities the second has the greater stamp
  abbrev pub ComesLater : Shapes S → X → X → Type 0
  ComesLater shapes x y = stamp_cmp shapes.mode (kept_key shapes x) (kept_key shapes y) ≡ Less

-- each number of a node is below the bound
abbrev pub IsBound : {X : Type 0} → View X → ℕ → Type 0
IsBound {X} T n = (c : ℕ) (d : Seen X) → T c ≡ Some d → c < n
