-- What an update begins with, and where it stands then.
use Rattle.std.specs.Prelude.{◌≡◌, ℕ, List, [], length, Some, true, false}
use Rattle.cga_order.specs.World.{is_instance}
use Rattle.cga_agenda.specs.Loop.{IsReady, LoopState}
use Rattle.cga_word.specs.declared.answers.Answers.{Answers}
use Rattle.cga_word.specs.declared.primitive.Primitive.{Primitive}
use Rattle.cga_depend.specs.Pairs.{DependentsView, nodes_in}
use Rattle.cga_rework.specs.City as tree
use Rattle.cga_rework.specs.Ranked.{Ranked}
use Rattle.cga_shape.specs.declared.shape.Shape.{Shape}
use Rattle.cga_shape.specs.declared.shape_fault.ShapeFault.{ShapeFault}
use Rattle.cga_shape.specs.declared.sources.Sources.{Sources}
use Rattle.cga_forest.specs.declared.node_change.NodeChange.{NodeChange}
use Rattle.cga_forest.specs.View.{Seen}
use Rattle.cga_forest.specs.Tree.{ForestView, marked_at, node_at}
use Rattle.cga_update.specs.declared.work.Work.{Work}
use Rattle.cga_queue.specs.Agenda.{AgendaView, HasAll}
use Rattle.cga_update.specs.Applied.{ListsView}
use Rattle.cga_update.specs.Askers.{IsAsker, IsOneOf}
use Rattle.cga_depend.specs.Both.{both}
use Rattle.cga_update.specs.Edit.{asks_by, content, kept_nodes, rules_of, shapes_of, the_edit}
use Rattle.cga_update.specs.Means.{Means}
use Rattle.cga_update.specs.Plain.{IsPlain}
use Rattle.cga_update.specs.Near.{IsChangedFor, IsPricedFor}
use Rattle.cga_update.specs.Queue.{chains_of}

-- the forest stands for the old sources, and is marked as it stands; so do the dependents
pub record StandsMarked (old new : Sources) (v : ForestView) (d : DependentsView) : Type 0 where
  pub old_mode : old.mode ≡ new.mode
  pub mode : v.mode ≡ new.mode
  pub marking : v.marking ≡ true
  pub marked : (c : ℕ) → marked_at v c ≡ node_at v c
  pub nodes : tree.Stands (shapes_of old) content (rules_of old) (asks_by old.grammar) (node_at v)
  pub silent : (c : ℕ) (x : Seen) → node_at v c ≡ Some x → is_instance x.node.kind ≡ true → x.node.asks ≡ false
  pub plain : (c : ℕ) (x : Seen) → node_at v c ≡ Some x → IsPlain x
  pub dependents : ListsView d (node_at v)

-- the work is from these sources to those
abbrev pub IsBetween : Sources → Sources → Work → Type 0
IsBetween old new w = (w.renewal.old.now ≡ old) × (w.renewal.new.now ≡ new)

-- nothing of the work is done yet
pub record IsFresh (w : Work) : Type 0 where
  pub mode : w.agenda.mode ≡ w.renewal.new.now.mode
  pub remembered : w.remembered ≡ []
  pub symbols : w.symbols ≡ w.renewal.new.now.grammar
  pub rules : w.rules ≡ w.renewal.new.now.grammar
  pub grammars : w.grammars ≡ both w.renewal.old.now.grammar w.renewal.new.now.grammar
  pub log : w.log.items ≡ []
  pub gone : w.gone.items ≡ []
  pub come : w.come.items ≡ []

-- the roots that came are on the agenda, and those of the mark that ask near what went or came
pub record HasMoved (v : ForestView) (removed created : List NodeChange) (a : AgendaView) : Type 0 where
  pub roots : HasAll (chains_of v) (IsOneOf created) a
  pub near_removed : HasAll (chains_of v) (IsAsker v removed) a
  pub near_created : HasAll (chains_of v) (IsAsker v created) a

-- the first agenda: these, and the nodes of changed symbols
pub record IsFirst (old new : Sources) (v : ForestView) (d : DependentsView) (removed created : List NodeChange) (a : AgendaView) : Type 0 where
  pub moved : HasMoved v removed created a
  pub changed : (symbol : List ℕ) → IsChangedFor v old.grammar new.grammar (nodes_in d symbol) symbol a
  pub priced : (symbol : List ℕ) → IsPricedFor v old.grammar new.grammar (nodes_in d symbol) symbol a

-- the work is ready for its first turn, from the nodes of the mark
abbrev pub HasBegun : Sources → Sources → ForestView → Work → Type 0
HasBegun old new v w =
    (s : LoopState (Ranked Shape) Answers ShapeFault Primitive) × Means w (the_edit old new) s
    × IsReady (the_edit old new) (kept_nodes v) s (length (the_edit old new).new.roots)
