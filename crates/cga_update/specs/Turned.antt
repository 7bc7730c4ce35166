-- What the turn of a node does to the work.
use Rattle.std.specs.Prelude.{◌≡◌, ◌⊎◌, ℕ, List, ◌++◌, length, Option, None, Some, IsSome, Bool, true, false, slice_get}
use Rattle.cga_word.specs.declared.answers.Answers.{Answers}
use Rattle.cga_word.specs.declared.primitive.Primitive.{Primitive}
use Rattle.cga_frame.specs.Box.{Box}
use Rattle.cga_order.specs.World.{is_waiting}
use Rattle.cga_order.specs.declared.placed.Kind.{Kind}
use Rattle.cga_order.specs.declared.placed.Kind.TheVariants.{Waiting, Done, Faulted, Instance}
use Rattle.cga_order.specs.Agenda as kept
use Rattle.cga_agenda.specs.Edit.{new_world}
use Rattle.cga_agenda.specs.declared.turned.Turned.{Turned}
use Rattle.cga_shape.specs.declared.emitted.Emitted.{Emitted}
use Rattle.cga_shape.specs.declared.emitted.Emitted.TheVariants.{Child, Solid}
use Rattle.cga_shape.specs.declared.shape.Shape.{Shape}
use Rattle.cga_shape.specs.declared.shape_fault.ShapeFault.{ShapeFault}
use Rattle.cga_expand.specs.Expand.{expand_of}
use Rattle.cga_expand.specs.Settings.{setting_of}
use Rattle.cga_forest.specs.declared.change.Change.{Change}
use Rattle.cga_forest.specs.declared.node.Node.{Node}
use Rattle.cga_forest.specs.NodeChange.{ListsOnlyIn}
use Rattle.cga_forest.specs.Node.{chain_kept}
use Rattle.cga_forest.specs.Placing.{Outcome, children_after, emitted, kind_after, state_after}
use Rattle.cga_forest.specs.View.{Seen}
use Rattle.cga_forest.specs.Tree.{ForestView, IsForest, Replaces, marked_at, node_at}
use Rattle.cga_update.specs.declared.work.Work.{Work}
use Rattle.cga_depend.specs.Both.{both}
use Rattle.cga_update.specs.Edit.{asks_by, kept_nodes, ranked, the_edit}
use Rattle.cga_update.specs.Clear.{IsClear, StaysClear}
use Rattle.cga_update.specs.Follow.{HasLaters, IsFollowed}
use Rattle.cga_queue.specs.Last.{IsPast}
use Rattle.cga_queue.specs.Remembered.{AreOn, IsRemembered, RememberedView}
use Rattle.cga_update.specs.Askers.{IsOneOf}
use Rattle.cga_update.specs.Queue.{chains_of}
use Rattle.cga_update.specs.Log.{created_of, drawn_of, removed_of}
use Rattle.cga_update.specs.Means.{KeepsBounds}
use Rattle.cga_update.specs.Plain.{IsPlain}

-- each of the mark that asks and comes later than the node is on the agenda, or there is none
abbrev pub HasNobodyLeft : Work → ℕ → Type 0
HasNobodyLeft w id =
    (w.all_queued ≡ true)
    ⊎ ((e : Seen) → node_at w.forest id ≡ Some e → IsPast w.renewal.new.now.mode w.last (chain_kept e.node))

-- the node has the outcome and these answers now, and what went and came is noted and followed
pub record IsPlaced (was now : Work) (id : ℕ) (answers : Answers) (outcome : Outcome) (change : Change) : Type 0 where
  pub replaced : (e : Seen) → node_at was.forest id ≡ Some e
      → Replaces (node_at was.forest) (node_at now.forest) id
      (state_after was.symbols e.node answers outcome) (children_after was.symbols e.node outcome)
  pub unmarked : (c : ℕ) → node_at was.forest c ≡ None → IsSome (node_at now.forest c) → marked_at was.forest c ≡ None
  pub removed : ListsOnlyIn (node_at was.forest) (node_at now.forest) change.removed
  pub created : ListsOnlyIn (node_at now.forest) (node_at was.forest) change.created
  pub nobody : Bool
  pub nobody_left : nobody ≡ true → HasNobodyLeft was id
  -- what is remembered of the agenda, less what went
  pub less : RememberedView
  pub forgot : (c : ℕ) → IsRemembered less c → IsRemembered was.remembered c × (IsOneOf change.removed c → ⊥)
  pub clear : (area : Box) → now.clear ≡ Some area → StaysClear now.forest id was.clear area
  pub followed : AreOn (chains_of now.forest) less was.agenda → IsClear now.forest now.clear
      → IsFollowed now.forest id change nobody was.agenda now.agenda
  pub remembered : AreOn (chains_of now.forest) less was.agenda → AreOn (chains_of now.forest) now.remembered now.agenda
  pub all_queued : AreOn (chains_of now.forest) less was.agenda → now.all_queued ≡ true
      → (was.all_queued ≡ true) ⊎ HasLaters now.forest id was.agenda.mode now.agenda
  pub log : now.log.items ≡ (was.log.items ++ removed_of change.removed) ++ created_of change.created
  pub gone : now.gone.items ≡ was.gone.items ++ drawn_of change.removed
  pub come : now.come.items ≡ was.come.items ++ drawn_of change.created
  pub bounds : KeepsBounds was now
  pub forest : IsForest now.forest

-- some change has placed it
abbrev pub HasPlaced : Work → Work → ℕ → Answers → Outcome → Type 0
HasPlaced was now id answers outcome = (change : Change) × IsPlaced was now id answers outcome change

-- what was emitted for a node of this kind and shape
abbrev pub emitted_as : Kind ShapeFault Primitive → Shape → Emitted
emitted_as Waiting s = Child s.symbol s.args s.scope s.seed
emitted_as Done s = Child s.symbol s.args s.scope s.seed
emitted_as (Faulted f) s = Child s.symbol s.args s.scope s.seed
emitted_as (Instance p) s = Solid p s.scope s.seed

abbrev pub emitted_of : Node → Emitted
emitted_of n = emitted_as n.kind n.shape

abbrev pub fault_in : Kind ShapeFault Primitive → Option ShapeFault
fault_in Waiting = None
fault_in Done = None
fault_in (Faulted f) = Some f
fault_in (Instance p) = None

-- what was emitted for the first so many children of a node
pub record AreEmitted (v : ForestView) (e : Seen) (n : ℕ) (made : List Emitted) : Type 0 where
  pub sized : length made ≡ n
  pub each : (i b : ℕ) (y : Emitted) (x : Seen) → slice_get made i ≡ Some y → slice_get e.children i ≡ Some b
      → node_at v b ≡ Some x
      → y ≡ emitted_of x.node

-- the outcome that a node had, if it isn't waiting
abbrev pub IsAgain : ForestView → Seen → Outcome → Type 0
IsAgain v e outcome = (kind_after outcome ≡ e.node.kind) × AreEmitted v e (length e.children) (emitted outcome)

-- setting and answers are the old ones
abbrev pub SameAsked : Work → Seen → Answers → Type 0
SameAsked w e answers =
    (setting_of w.renewal.old.now.grammar e.node.shape.symbol ≡ setting_of w.renewal.new.now.grammar e.node.shape.symbol) × (e.node.answers ≡ answers)

-- it waits or is asked otherwise, and has what it is expanded to
pub record IsExpanded (was : Work) (e : Seen) (answers : Answers) (outcome : Outcome) (children : ℕ) : Type 0 where
  pub must : (e.node.kind ≡ Waiting) ⊎ (SameAsked was e answers → ⊥)
  pub value : outcome ≡ expand_of was.renewal.new.now.grammar e.node.shape answers
  pub count : children ≡ length (emitted outcome)

-- it is asked as before, and has what it had
pub record IsPlacedAgain (was : Work) (e : Seen) (answers : Answers) (outcome : Outcome) (children : ℕ) : Type 0 where
  pub count : children ≡ 0
  pub done : is_waiting e.node.kind ≡ false
  pub same : SameAsked was e answers
  pub again : IsAgain was.forest e outcome

-- the turn of a node whose children are placed
pub record IsPlacing (was now : Work) (id : ℕ) (turned : Turned) : Type 0 where
  pub node : Seen
  pub here : node_at was.forest id ≡ Some node
  pub answers : Answers
  pub asked : answers ≡ kept.asked (new_world (the_edit was.renewal.old.now was.renewal.new.now))
      (kept_nodes was.forest) (ranked node.node)
  pub outcome : Outcome
  pub placed : HasPlaced was now id answers outcome
  pub told : ((turned.expanded ≡ true) × IsExpanded was node answers outcome turned.children)
      ⊎ ((turned.expanded ≡ false) × IsPlacedAgain was node answers outcome turned.children)

-- the turn of a node that is asked as before and asks what it should, where each node has its symbol's priority: all stays
pub record IsQuiet (was now : Work) (id : ℕ) (turned : Turned) : Type 0 where
  pub node : Seen
  pub here : node_at was.forest id ≡ Some node
  pub done : is_waiting node.node.kind ≡ false
  pub same : SameAsked was node
      (kept.asked (new_world (the_edit was.renewal.old.now was.renewal.new.now)) (kept_nodes was.forest) (ranked node.node))
  pub asks : node.node.asks ≡ asks_by was.renewal.new.now.grammar node.node.shape
  pub priced : was.priced ≡ true
  pub stays : now ≡ was
  pub told : turned ≡ record { children = 0; expanded = false }

-- the turn of a node
abbrev pub IsTurned : Work → Work → ℕ → Turned → Type 0
IsTurned was now id turned = IsPlacing was now id turned ⊎ IsQuiet was now id turned

-- what a turn rests on
pub record MayTurn (w : Work) : Type 0 where
  pub mode : w.forest.mode ≡ w.renewal.new.now.mode
  pub symbols : w.symbols ≡ w.renewal.new.now.grammar
  pub rules : w.rules ≡ w.renewal.new.now.grammar
  pub grammars : w.grammars ≡ both w.renewal.old.now.grammar w.renewal.new.now.grammar
  pub plain : (c : ℕ) (d : Seen) → node_at w.forest c ≡ Some d → IsPlain d
