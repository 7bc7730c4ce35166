-- What a kept forest tells of a run.
use Rattle.std.specs.Prelude.{◌≡◌, ℕ, length, Bool, false, ◌||◌, Some}
use Rattle.cga_word.specs.declared.answers.Answers.{Answers}
use Rattle.cga_word.specs.declared.primitive.Primitive.{Primitive}
use Rattle.cga_word.specs.declared.target.Target.TheVariants.{Noparent, Active}
use Rattle.cga_rule.specs.declared.grammar.Grammar.{Grammar}
use Rattle.cga_shape.specs.declared.shape.Shape.{Shape}
use Rattle.cga_shape.specs.declared.shape_fault.ShapeFault.{ShapeFault}
use Rattle.cga_shape.specs.declared.sources.Sources.{Sources}
use Rattle.cga_shape.specs.declared.trace_step.Outcome.{Outcome}
use Rattle.cga_shape.specs.declared.trace_step.Outcome.TheVariants as trace
use Rattle.cga_shape.specs.declared.trace_step.TraceStep.{TraceStep}
use Rattle.cga_order.specs.World.{is_instance}
use Rattle.cga_order.specs.declared.placed.Kind.{Kind}
use Rattle.cga_order.specs.declared.placed.Kind.TheVariants.{Waiting, Done, Faulted, Instance}
use Rattle.cga_rework.specs.City as tree
use Rattle.cga_rework.specs.Nodes.{Content}
use Rattle.cga_rework.specs.Rules.{Shapes, Rules, rules_from, shapes_from}
use Rattle.cga_derivation.specs.Derivation.{reached, NothingWaits}
use Rattle.cga_expand.specs.Asked.{asks_for}
use Rattle.cga_expand.specs.Derivation.{derivation_of, NamesDiffer}
use Rattle.cga_expand.specs.Settings.{Setting, setting_of}
use Rattle.cga_forest.specs.declared.node.Node.{Node}
use Rattle.cga_forest.specs.View.{Seen}
use Rattle.cga_forest.specs.Tree.{ForestView, node_at}
use Rattle.cga_trace.specs.Sorted.{IsTold}
use Rattle.cga_derivation.specs.Stamps.{chain_in}
use Rattle.cga_forest.specs.Node.{chain_kept}

abbrev pub shapes_of : Sources → Shapes Shape
shapes_of sources = shapes_from (derivation_of sources)

abbrev pub rules_of : Sources → Rules Shape Answers Setting ShapeFault Primitive
rules_of sources = rules_from (derivation_of sources) (λ s. setting_of sources.grammar s.symbol)

abbrev pub asks_by : Grammar → Shape → Bool
asks_by grammar s = asks_for grammar s.symbol Noparent || asks_for grammar s.symbol Active

-- what a node of a forest holds
abbrev pub content : Content Node Shape Answers ShapeFault Primitive
content = record {
  shape = λ n. n.shape;
  symbol = λ n. n.shape.symbol;
  priority = λ n. n.priority;
  line = λ n. n.line;
  kind = λ n. n.kind;
  answers = λ n. n.answers;
  asks = λ n. n.asks;
}

-- the forest's nodes stand for the sources
abbrev pub NodesStand : Sources → ForestView → Type 0
NodesStand sources v = tree.Stands (shapes_of sources) content (rules_of sources) (asks_by sources.grammar) (node_at v)

-- what became of a node of this kind, with so many children
abbrev pub outcome_from : Kind ShapeFault Primitive → ℕ → Outcome
outcome_from Waiting n = trace.Grew n
outcome_from Done n = trace.Grew n
outcome_from (Faulted f) n = trace.Faulted f
outcome_from (Instance p) n = trace.Grew n

-- the step that a node is kept of
abbrev pub step_of_node : Seen → TraceStep
step_of_node d = record {
  lot = d.node.shape.lot;
  path = d.node.shape.path;
  symbol = d.node.shape.symbol;
  answers = d.node.answers;
  outcome = outcome_from d.node.kind (length d.children);
}

-- each node that isn't an instance keeps what its turn told
abbrev pub NodesAreTold : Type 0
NodesAreTold =
    (sources : Sources) → NamesDiffer sources.lots
    → (end : ℕ) → NothingWaits (derivation_of sources) (reached (derivation_of sources) end)
    → (v : ForestView) → NodesStand sources v
    → (c : ℕ) (d : Seen) → node_at v c ≡ Some d → is_instance d.node.kind ≡ false
    → (n : ℕ) × IsTold sources n (step_of_node d)

-- the node is there, and is no instance
abbrev pub IsInner : ForestView → ℕ → Seen → Type 0
IsInner v c d = (node_at v c ≡ Some d) × (is_instance d.node.kind ≡ false)

-- and what a turn told is kept by a node at its place
abbrev pub TurnsAreKept : Type 0
TurnsAreKept =
    (sources : Sources) → NamesDiffer sources.lots
    → (end : ℕ) → NothingWaits (derivation_of sources) (reached (derivation_of sources) end)
    → (v : ForestView) → NodesStand sources v
    → (n : ℕ) (t : TraceStep) → IsTold sources n t
    → (c : ℕ) × (d : Seen) × IsInner v c d × (d.node.shape.lot ≡ t.lot) × (d.node.shape.path ≡ t.path)

-- the kept priorities are those that are told from the derivation's list
abbrev pub ChainsAreKept : Type 0
ChainsAreKept =
    (sources : Sources) → NamesDiffer sources.lots
    → (end : ℕ) → NothingWaits (derivation_of sources) (reached (derivation_of sources) end)
    → (v : ForestView) → NodesStand sources v
    → (c : ℕ) (d : Seen) → IsInner v c d
    → chain_kept d.node ≡ chain_in (derivation_of sources) (reached (derivation_of sources) end) d.node.shape
