-- What a node is when a grammar places it: the root of a lot, and the children of an expansion.
use Rattle.std.specs.Prelude.{◌≡◌, ◌≤◌, ◌<◌, ◌+◌, ℕ, List, [], ◌∷◌, ◌++◌, length, Bool, false, None, Result, Ok, Err}
use Rattle.cga_rule.specs.declared.grammar.Grammar.{Grammar}
use Rattle.cga_check.specs.Said.{asks_any, said}
use Rattle.cga_check.specs.declared.said.Said.{Said}
use Rattle.cga_word.specs.declared.answers.Answers.{Answers}
use Rattle.cga_word.specs.declared.primitive.Primitive.{Primitive}
use Rattle.cga_order.specs.Head.{child_head}
use Rattle.cga_order.specs.World.{is_instance}
use Rattle.cga_order.specs.declared.placed.Kind.{Kind}
use Rattle.cga_order.specs.declared.placed.Kind.TheVariants.{Waiting, Done, Faulted, Instance}
use Rattle.cga_order.proofs.Door.{child_is_head}
use Rattle.cga_shape.specs.Root.{root_of}
use Rattle.cga_shape.specs.declared.lot.Lot.{Lot}
use Rattle.cga_shape.specs.declared.emitted.Emitted.{Emitted}
use Rattle.cga_shape.specs.declared.emitted.Emitted.TheVariants.{Child, Solid}
use Rattle.cga_shape.specs.declared.shape.Shape.{Shape}
use Rattle.cga_shape.specs.declared.shape_fault.ShapeFault.{ShapeFault}
use Rattle.cga_forest.specs.declared.node.Node.{Node}
use Rattle.cga_forest.specs.declared.node.NodeState.{NodeState}
use Rattle.cga_forest.specs.View.{Seen}

abbrev pub unasked : Answers
unasked = record { noparent = None; active = None }

-- the waiting root of a lot
pub record IsRootNode (g : Grammar) (lot : Lot) (n : Node) : Type 0 where
  pub shape : root_of lot ≡ Ok n.shape
  pub kind : n.kind ≡ Waiting
  pub priority : n.priority ≡ (said g lot.symbol).priority
  pub asks : n.asks ≡ asks_any (said g lot.symbol)
  pub answers : n.answers ≡ unasked
  pub line : n.line ≡ n.priority ∷ []

-- the shape of child i of a node: a solid has its emitter's symbol
abbrev pub child_shape : Node → ℕ → Emitted → Shape
child_shape n i (Child symbol args scope seed) = record { lot = n.shape.lot; path = n.shape.path ++ i ∷ []; symbol = symbol; args = args; scope = scope; seed = seed }
child_shape n i (Solid primitive scope seed) = record { lot = n.shape.lot; path = n.shape.path ++ i ∷ []; symbol = n.shape.symbol; args = []; scope = scope; seed = seed }

-- a shape waits, and a solid is an instance
abbrev pub child_kind : Emitted → Kind ShapeFault Primitive
child_kind (Child symbol args scope seed) = Waiting
child_kind (Solid primitive scope seed) = Instance primitive

-- an instance asks nothing
abbrev pub child_asks : Said → Emitted → Bool
child_asks s (Child symbol args scope seed) = asks_any s
child_asks s (Solid primitive scope seed) = false

abbrev pub with_said : Node → Shape → Emitted → Said → Node
with_said n shape e s = record {
  shape = shape;
  kind = child_kind e;
  priority = s.priority;
  answers = unasked;
  asks = child_asks s e;
  line = n.line ++ s.priority ∷ [];
  head = child_head n.line n.head s.priority;
  headed = child_is_head n.line n.head s.priority n.headed;
}

-- child i of a node
abbrev pub child_node : Grammar → Node → ℕ → Emitted → Node
child_node g n i e = with_said n (child_shape n i e) e (said g (child_shape n i e).symbol)

-- the children from number i on
abbrev pub children_from : Grammar → Node → ℕ → List Emitted → List Node
children_from g n i [] = []
children_from g n i (e ∷ es) = child_node g n i e ∷ children_from g n (i + 1) es

abbrev pub Outcome : Type 0
Outcome = Result (List Emitted) ShapeFault

abbrev pub emitted : Outcome → List Emitted
emitted (Ok es) = es
emitted (Err fault) = []

abbrev pub kind_after : Outcome → Kind ShapeFault Primitive
kind_after (Ok es) = Done
kind_after (Err fault) = Faulted fault

-- a node with its outcome and the answers that it was given
abbrev pub state_after : Grammar → Node → Answers → Outcome → NodeState
state_after g n answers outcome = record { kind = kind_after outcome; answers = answers; asks = asks_any (said g n.shape.symbol) }

-- its children
abbrev pub children_after : Grammar → Node → Outcome → List Node
children_after g n outcome = children_from g n 0 (emitted outcome)

-- the node isn't an instance, and may have so many children
pub record MayGrow (e : Seen) (outcome : Outcome) : Type 0 where
  pub inner : is_instance e.node.kind ≡ false
  pub low : 0 < length (emitted outcome) → length e.node.shape.path < 256
  pub few : length (emitted outcome) ≤ 4096
