-- Nodes: where they lie, what of them may change, and when an old child stays in the place of a new one.
use Rattle.std.specs.Prelude.{◌≡◌, ℕ, [], ◌∷◌, ◌++◌, Bool, true, false, ◌&&◌, nat_eq}
use denote.Enum.Bare.{sameb}
use Rattle.cga_frame.specs.Box.{Box, box_of}
use Rattle.cga_order.specs.Chain.{Chain}
use Rattle.cga_order.specs.World.{is_instance}
use Rattle.cga_order.specs.declared.placed.Kind.{Kind}
use Rattle.cga_order.specs.declared.placed.Kind.TheVariants.{Instance}
use Rattle.cga_shape.specs.declared.shape_fault.ShapeFault.{ShapeFault}
use Rattle.cga_shape.specs.Equal.{same_shape}
use Rattle.cga_word.specs.declared.primitive.Primitive.{Primitive}
use Rattle.cga_word.specs.contracts.primitive.Primitive as primitive
use Rattle.cga_forest.specs.declared.node.Node.{Node}
use Rattle.cga_forest.specs.declared.node.NodeState.{NodeState}

-- the world box of the node's scope
unfoldable pub bounds : Node → Box
bounds n = box_of n.shape.scope

abbrev pub state_of : Node → NodeState
state_of n = record { kind = n.kind; answers = n.answers; asks = n.asks }

abbrev pub with_state : NodeState → Node → Node
with_state s n = record n { kind = s.kind; answers = s.answers; asks = s.asks }

-- its lot, its path and the kept priorities on it
abbrev pub chain_kept : Node → Chain
chain_kept n = record { lot = n.shape.lot; path = n.shape.path; priorities = n.line }

-- ---- what stays

-- neither is an instance, or both are instances of one primitive
abbrev pub same_sort : Kind ShapeFault Primitive → Kind ShapeFault Primitive → Bool
same_sort (Instance p) (Instance q) = sameb primitive.the_type p q
same_sort (Instance p) k = false
same_sort k (Instance q) = false
same_sort k l = true

-- an old child stays where the new one has its shape, its priority and its sort
unfoldable pub fits : Node → Node → Bool
fits old new = nat_eq old.priority new.priority && (same_sort old.kind new.kind && same_shape old.shape new.shape)

-- that two nodes fit, as a fact
pub record AreAlike (old new : Node) : Type 0 where
  pub shape : old.shape ≡ new.shape
  pub priority : old.priority ≡ new.priority
  pub instances : is_instance old.kind ≡ is_instance new.kind
  pub primitive : is_instance new.kind ≡ true → old.kind ≡ new.kind

-- ---- where nodes stand

-- a root, of a lot with that name
pub record IsTop (n : Node) : Type 0 where
  pub inner : is_instance n.kind ≡ false
  pub path : n.shape.path ≡ []
  pub line : n.line ≡ n.priority ∷ []

-- child i of a node
pub record IsBelow (parent : Node) (i : ℕ) (child : Node) : Type 0 where
  pub inner : is_instance parent.kind ≡ false
  pub lot : child.shape.lot ≡ parent.shape.lot
  pub path : child.shape.path ≡ parent.shape.path ++ i ∷ []
  pub line : child.line ≡ parent.line ++ child.priority ∷ []
