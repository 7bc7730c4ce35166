-- The edit of the theory, from old sources to new ones of one mode, over the nodes of a kept forest.
use Rattle.std.specs.Prelude.{List, length, Bool, ◌||◌}
use Rattle.cga_word.specs.declared.answers.Answers.{Answers}
use Rattle.cga_word.specs.declared.primitive.Primitive.{Primitive}
use Rattle.cga_word.specs.declared.target.Target.TheVariants.{Noparent, Active}
use Rattle.cga_frame.specs.Box.{box_of, meets}
use Rattle.cga_rule.specs.declared.grammar.Grammar.{Grammar}
use Rattle.cga_shape.specs.declared.shape.Shape.{Shape}
use Rattle.cga_shape.specs.declared.shape_fault.ShapeFault.{ShapeFault}
use Rattle.cga_shape.specs.declared.sources.Sources.{Sources}
use Rattle.cga_order.specs.Agenda as kept
use Rattle.cga_agenda.specs.Edit.{Edit}
use Rattle.cga_rework.specs.Nodes.{Content, nodes_of, ranked_of}
use Rattle.cga_rework.specs.Ranked.{Ranked, edit_of}
use Rattle.cga_rework.specs.Rules.{Shapes, Rules, rules_from, shapes_from}
use Rattle.cga_expand.specs.Asked.{asks_for}
use Rattle.cga_expand.specs.Derivation as expansion
use Rattle.cga_expand.specs.Settings.{Setting, setting_of}
use Rattle.cga_forest.specs.declared.node.Node.{Node}
use Rattle.cga_forest.specs.Tree.{ForestView, node_at}

-- what old and new sources have in common: their shapes, and the mode
abbrev pub shapes_of : Sources → Shapes Shape
shapes_of sources = shapes_from (expansion.derivation_of sources)

-- what they differ in
abbrev pub rules_of : Sources → Rules Shape Answers Setting ShapeFault Primitive
rules_of sources =
    rules_from (expansion.derivation_of sources) (λ s. setting_of sources.grammar s.symbol)

-- from the old sources to the new ones, in the mode of the new
abbrev pub the_edit : Sources → Sources → Edit (Ranked Shape) Answers Setting ShapeFault Primitive
the_edit old new = edit_of (shapes_of new) (rules_of old) (rules_of new)

-- the group of the shape's symbol mentions a target
abbrev pub asks_by : Grammar → Shape → Bool
asks_by grammar s = asks_for grammar s.symbol Noparent || asks_for grammar s.symbol Active

-- the boxes of the first, which asks, and of the second meet
abbrev pub meets_box : Shape → Shape → Bool
meets_box n m = meets (box_of n.scope) (box_of m.scope)

-- what a node of a forest holds
abbrev pub content : Content Node Shape Answers ShapeFault Primitive
content = record {
  shape = λ n. n.shape;
  symbol = λ n. n.shape.symbol;
  priority = λ n. n.priority;
  line = λ n. n.line;
  kind = λ n. n.kind;
  answers = λ n. n.answers;
  asks = λ n. n.asks;
}

-- a node's shape with the kept priorities on its path
abbrev pub ranked : Node → Ranked Shape
ranked n = ranked_of content n

-- the nodes of a forest
abbrev pub kept_nodes : ForestView → List (kept.Node (Ranked Shape) Answers ShapeFault Primitive)
kept_nodes v = nodes_of content (node_at v) (length v.slots)
