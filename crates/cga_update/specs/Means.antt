-- What an update under way means: the edit of the theory for which it works, and where that work stands.
use Rattle.std.specs.Prelude.{◌≡◌, ℕ, map, Some, true, false}
use Rattle.cga_word.specs.declared.answers.Answers.{Answers}
use Rattle.cga_word.specs.declared.primitive.Primitive.{Primitive}
use Rattle.cga_shape.specs.declared.drawn.Drawn as reported
use Rattle.cga_shape.specs.declared.shape.Shape.{Shape}
use Rattle.cga_shape.specs.declared.shape_fault.ShapeFault.{ShapeFault}
use Rattle.cga_order.specs.World.{is_instance}
use Rattle.cga_agenda.specs.Edit.{Edit}
use Rattle.cga_agenda.specs.Loop.{LoopState}
use Rattle.cga_agenda.specs.Record.{Drawn}
use Rattle.cga_rework.specs.Agenda.{AreQueued}
use Rattle.cga_rework.specs.City.{IsUnderway}
use Rattle.cga_rework.specs.Ranked.{Ranked, unranked_drawn}
use Rattle.cga_rule.specs.declared.grammar.Grammar.{Grammar}
use Rattle.cga_expand.specs.Derivation.{priority_of}
use Rattle.cga_expand.specs.Settings.{Setting}
use Rattle.cga_forest.specs.View.{Seen}
use Rattle.cga_forest.specs.Tree.{ForestView, KeepsMark, marked_at, node_at}
use Rattle.cga_update.specs.declared.work.Work.{Work}
use Rattle.cga_queue.specs.Remembered.{AreOn}
use Rattle.cga_depend.specs.Both.{both}
use Rattle.cga_update.specs.Clear.{IsClear}
use Rattle.cga_update.specs.Due.{AskersAreDue, ComersAreDue}
use Rattle.cga_update.specs.Edit.{asks_by, content, kept_nodes, rules_of, shapes_of, the_edit}
use Rattle.cga_update.specs.Last.{AskersAreUpTo}
use Rattle.cga_update.specs.Log.{IsLogged}
use Rattle.cga_update.specs.Plain.{IsPlain}
use Rattle.cga_update.specs.Queue.{chains_of, on_of}
use Rattle.cga_update.specs.Updates.{told}

-- a ranked instance as it is reported
abbrev pub told_ranked : Drawn (Ranked Shape) Primitive → reported.Drawn
told_ranked d = told (unranked_drawn d)

-- each node that is no instance has the priority that its symbol has in the grammar
abbrev pub ArePriced : Grammar → ForestView → Type 0
ArePriced g v =
    (c : ℕ) (d : Seen) → node_at v c ≡ Some d → is_instance d.node.kind ≡ false
    → d.node.priority ≡ priority_of g d.node.shape.symbol

pub record Means (w : Work) (edit : Edit (Ranked Shape) Answers Setting ShapeFault Primitive) (s : LoopState (Ranked Shape) Answers ShapeFault Primitive) : Type 0 where
  pub edit_is : edit ≡ the_edit w.renewal.old.now w.renewal.new.now
  pub mode : w.forest.mode ≡ w.renewal.new.now.mode
  pub agenda_mode : w.agenda.mode ≡ w.renewal.new.now.mode
  pub nodes : s.nodes ≡ kept_nodes w.forest
  -- the nodes are a city of the new roots, and what isn't right by priority or by asking is on the agenda
  pub underway : IsUnderway (shapes_of w.renewal.new.now) content (rules_of w.renewal.new.now)
      (asks_by w.renewal.new.now.grammar) (node_at w.forest) (on_of w.forest w.agenda)
  pub queued : AreQueued (shapes_of w.renewal.new.now) content (node_at w.forest) (on_of w.forest w.agenda) s.queued
  pub due : ComersAreDue w.renewal.new.now.mode w.forest w.agenda
  pub remembered : AreOn (chains_of w.forest) w.remembered w.agenda
  pub all_queued : w.all_queued ≡ true → AskersAreDue w.renewal.new.now.mode w.forest w.agenda
  pub priced : w.priced ≡ true → ArePriced w.renewal.new.now.grammar w.forest
  pub last : AskersAreUpTo w.renewal.new.now.mode w.last w.renewal.new.now.grammar w.forest
  pub clear : IsClear w.forest w.clear
  -- an instance doesn't ask
  pub silent : (c : ℕ) (d : Seen) → node_at w.forest c ≡ Some d → is_instance d.node.kind ≡ true → d.node.asks ≡ false
  pub plain : (c : ℕ) (d : Seen) → node_at w.forest c ≡ Some d → IsPlain d
  pub gone : w.gone.items ≡ map told_ranked s.gone
  pub come : w.come.items ≡ map told_ranked s.come
  pub symbols : w.symbols ≡ w.renewal.new.now.grammar
  pub rules : w.rules ≡ w.renewal.new.now.grammar
  pub grammars : w.grammars ≡ both w.renewal.old.now.grammar w.renewal.new.now.grammar
  -- the log makes the nodes of each symbol of those at the mark
  pub marked : w.forest.marking ≡ true
  pub logged : IsLogged (marked_at w.forest) (node_at w.forest) w.log.items

-- the sources and their grammars, the mode and the mark are as they were, and so is whether all nodes are priced, and the
-- last that asks
pub record KeepsBounds (was now : Work) : Type 0 where
  pub old : now.renewal.old ≡ was.renewal.old
  pub new : now.renewal.new ≡ was.renewal.new
  pub mode : now.forest.mode ≡ was.forest.mode
  pub mark : KeepsMark was.forest now.forest
  pub symbols : now.symbols ≡ was.symbols
  pub rules : now.rules ≡ was.rules
  pub grammars : now.grammars ≡ was.grammars
  pub priced : now.priced ≡ was.priced
  pub last : now.last ≡ was.last
