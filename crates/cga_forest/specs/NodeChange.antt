-- The nodes that a change takes away or brings, and those below a node, as lists.
use Rattle.std.specs.Prelude.{◌≡◌, ◌↔◌, ℕ, List, map, Option, Some, None, Bool, true, nat_eq}
use Rattle.std.specs.List.{list_any}
use Rattle.cga_index.specs.Tree.{Apart}
use Rattle.cga_order.specs.World.{Among}
use Rattle.cga_order.specs.declared.placed.Kind.{Kind}
use Rattle.cga_order.specs.declared.placed.Kind.TheVariants.{Instance}
use Rattle.cga_shape.specs.declared.shape_fault.ShapeFault.{ShapeFault}
use Rattle.cga_word.specs.declared.primitive.Primitive.{Primitive}
use Rattle.cga_forest.specs.declared.node_change.NodeChange.{NodeChange}
use Rattle.cga_forest.specs.declared.node.Node.{Node}
use Rattle.cga_forest.specs.Tree.{ForestView, node_at, children_at, under}
use Rattle.cga_forest.specs.View.{Seen}

-- an instance's primitive
abbrev pub primitive_of : Kind ShapeFault Primitive → Option Primitive
primitive_of (Instance p) = Some p
primitive_of kind = None

abbrev pub moved_node : ℕ → Node → NodeChange
moved_node c n = record { id = c; lot = n.shape.lot; symbol = n.shape.symbol; scope = n.shape.scope; primitive = primitive_of n.kind }

abbrev pub moved_of : ℕ → Seen → NodeChange
moved_of c d = moved_node c d.node

abbrev pub ids_of : List NodeChange → List ℕ
ids_of list = map (λ (m : NodeChange). m.id) list

-- whether the list has a node of this number
abbrev pub is_listed : List NodeChange → ℕ → Bool
is_listed list c = list_any (λ (m : NodeChange). nat_eq m.id c) list

-- the list has the nodes of the view under these numbers, each once, and no other
pub record Lists (T : ℕ → Option Seen) (These : ℕ → Type 0) (list : List NodeChange) : Type 0 where
  pub once : Apart (ids_of list)
  pub each : (m : NodeChange) → Among m list ↔ ((c : ℕ) × (d : Seen) × (T c ≡ Some d) × These c × (m ≡ moved_of c d))

-- the nodes of the first view whose numbers have none in the second
abbrev pub ListsOnlyIn : (ℕ → Option Seen) → (ℕ → Option Seen) → List NodeChange → Type 0
ListsOnlyIn S T = Lists S (λ c. T c ≡ None)

-- the node and all below it
abbrev pub ListsBelow : ForestView → ℕ → List NodeChange → Type 0
ListsBelow v id = Lists (node_at v) (λ c. under (children_at v) 257 id c ≡ true)
