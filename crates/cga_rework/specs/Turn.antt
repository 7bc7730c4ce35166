-- A turn, as the kept tree, the walk of it and the agenda tell it.
use Rattle.std.specs.Prelude.{◌≡◌, ◌⊎◌, ℕ, List, [], map, length, Some, Result, Ok, Err, Bool, true, false, slice_get}
use Rattle.cga_tree.specs.Tree.{Seen, View, IsTree}
use Rattle.cga_tree.specs.Replaced.{IsReplaced}
use Rattle.cga_order.specs.World.{is_instance, is_waiting, IsNew}
use Rattle.cga_order.specs.declared.placed.Placed.{Placed}
use Rattle.cga_order.specs.declared.placed.Kind.TheVariants.{Waiting, Done, Faulted}
use Rattle.cga_order.specs.Agenda.{asked}
use Rattle.cga_agenda.specs.Work.{first_kind}
use Rattle.cga_rework.specs.Rules.{Shapes, Rules}
use Rattle.cga_rework.specs.Ranked.{ranked_world}
use Rattle.cga_rework.specs.Nodes.{Content, ranked_of, placed_of, nodes_of}
use Rattle.cga_rework.specs.City.{StandsBelow}
use Rattle.cga_rework.specs.Agenda.{IsTaken, IsMoved}

-- an old child stays exactly where it is alike with the content asked for: of equal shape and priority,
-- and an instance of the same primitive or none
pub record AreAlike {X S A F P : Type 0} (content : Content X S A F P) (x y : X) : Type 0 where
  pub shape : content.shape x ≡ content.shape y
  pub priority : content.priority x ≡ content.priority y
  pub instances : is_instance (content.kind x) ≡ is_instance (content.kind y)
  pub solid : is_instance (content.kind y) ≡ true → content.kind x ≡ content.kind y

pub record IsFit {X S A F P : Type 0} (content : Content X S A F P) (fits : X → X → Bool) : Type 0 where
  pub sound : (x y : X) → fits x y ≡ true → AreAlike content x y
  pub whole : (x y : X) → AreAlike content x y → fits x y ≡ true

-- what a shape sees asks where it does, and it meets its box
abbrev pub SeesWhatMeets : {S A B F P : Type 0} → Rules S A B F P → (S → Bool) → (S → S → Bool) → Type 0
SeesWhatMeets {S} rules asks meets = (n m : S) → rules.sees n m ≡ true → (asks n ≡ true) × (meets n m ≡ true)

-- the node's new kind and the contents asked for are an outcome
abbrev pub IsOutcome : {X S A F P : Type 0} → Content X S A F P → X → List X → Result (List (Placed S F P)) F → Type 0
IsOutcome content now news (Ok children) = (content.kind now ≡ Done) × (map (placed_of content) news ≡ children)
IsOutcome content now news (Err fault) = (content.kind now ≡ Faulted fault) × (news ≡ [])

-- the contents asked for are the children of e as they were made
pub record AreAgain {X S A F P : Type 0} (content : Content X S A F P) (V : View X) (e : Seen X) (news : List X) : Type 0 where
  pub sized : length news ≡ length e.children
  pub each : (i b : ℕ) (w : X) (x : Seen X) → slice_get news i ≡ Some w → slice_get e.children i ≡ Some b → V b ≡ Some x
      → (content.shape w ≡ content.shape x.node) × (content.kind w ≡ first_kind (content.kind x.node))

-- the node itself stays where it is, and is no instance before and after
pub record KeepsSelf {X S A F P : Type 0} (content : Content X S A F P) (e now : X) : Type 0 where
  pub shape : content.shape now ≡ content.shape e
  pub symbol : content.symbol now ≡ content.symbol e
  pub priority : content.priority now ≡ content.priority e
  pub line : content.line now ≡ content.line e
  pub was : is_instance (content.kind e) ≡ false
  pub is : is_instance (content.kind now) ≡ false

-- the contents asked for: each stands at its place below the node, waits or is an instance, and has its
-- symbol's priority
pub record AreNews {X S A B F P : Type 0} (shapes : Shapes S) (content : Content X S A F P) (rules : Rules S A B F P) (e : X) (news : List X) : Type 0 where
  pub below : (i : ℕ) (w : X) → slice_get news i ≡ Some w → StandsBelow shapes content e i w
  pub fresh : (i : ℕ) (w : X) → slice_get news i ≡ Some w → IsNew (content.kind w)
  pub priced : (i : ℕ) (w : X) → slice_get news i ≡ Some w → content.priority w ≡ rules.priority (content.shape w)

module _ {X S A B F P : Type 0} (shapes : Shapes S) (content : Content X S A F P) (old new : Rules S A B F P) where
  -- the answers of the node by the new rules, over the nodes that there are
  abbrev pub asked_now : View X → ℕ → X → A
  asked_now V small x = asked (ranked_world shapes new) (nodes_of content V small) (ranked_of content x)

  -- setting and answers are the old ones
  abbrev pub SameInputs : View X → ℕ → X → Type 0
  SameInputs V small x =
      (old.setting (content.shape x) ≡ new.setting (content.shape x)) × (content.answers x ≡ asked_now V small x)

  -- the node waits or its inputs differ, and it has the new outcome
  pub record IsExpanded (V : View X) (small : ℕ) (e now : X) (news : List X) : Type 0 where
    pub must : (content.kind e ≡ Waiting) ⊎ (SameInputs V small e → ⊥)
    pub answered : content.answers now ≡ asked_now V small e
    pub outcome : IsOutcome content now news (new.expand (content.shape e) (content.answers now))

  -- it doesn't wait and its inputs are equal: its children are asked for again, with their new priorities
  pub record IsRepriced (V : View X) (small : ℕ) (e : Seen X) (now : X) (news : List X) : Type 0 where
    pub done : is_waiting (content.kind e.node) ≡ false
    pub same : SameInputs V small e.node
    pub kind : content.kind now ≡ content.kind e.node
    pub answers : content.answers now ≡ content.answers e.node
    pub again : AreAgain content V e news

  -- the turn of the node e under id, whose children are replaced
  pub record IsNodeTurn (fits : X → X → Bool) (asks : S → Bool) (meets : S → S → Bool) (V T : View X)
      (small id : ℕ) (news : List X) (e now : Seen X) (gone : ℕ → Bool) (agenda rest after : ℕ → Bool) (expanded : Bool) : Type 0 where
    pub taken : IsTaken shapes content V id e agenda rest
    pub replaced : IsReplaced fits V T id news e now gone
    pub tree : IsTree T
    pub self : KeepsSelf content e.node now.node
    pub self_asks : content.asks now.node ≡ asks (content.shape now.node)
    pub are : AreNews shapes content new e.node news
    pub outcome : ((expanded ≡ true) × IsExpanded V small e.node now.node news)
        ⊎ ((expanded ≡ false) × IsRepriced V small e now.node news)
    pub moved : IsMoved shapes content meets V T e.node rest after

  -- the turn of a node whose inputs are equal, whose children have their symbols' priorities, and which
  -- asks where its shape does: it is off the agenda then, and nothing else changes
  pub record IsQuietTurn (asks : S → Bool) (V : View X) (small id : ℕ) (e : Seen X) (agenda rest : ℕ → Bool) : Type 0 where
    pub taken : IsTaken shapes content V id e agenda rest
    pub inner : is_instance (content.kind e.node) ≡ false
    pub done : is_waiting (content.kind e.node) ≡ false
    pub same : SameInputs V small e.node
    pub priced : (b : ℕ) (x : Seen X) → V b ≡ Some x → x.parent ≡ Some id → is_instance (content.kind x.node) ≡ false
        → content.priority x.node ≡ new.priority (content.shape x.node)
    pub self_asks : content.asks e.node ≡ asks (content.shape e.node)
