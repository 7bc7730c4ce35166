-- What is proved of a kept tree: its turns are turns of the work of an edit, its beginning is a beginning,
-- and its lists of what went and came are changes.
use Rattle.std.specs.Prelude.{◌≡◌, ◌↔◌, ℕ, List, [], length, Some, None, Bool, true, false, ◌||◌}
use Rattle.cga_tree.specs.Tree.{Seen, View, IsTree}
use Rattle.cga_order.specs.World.{Among, is_instance}
use Rattle.cga_order.specs.Agenda.{Node, asked}
use Rattle.cga_agenda.specs.Work.{StandOnce, NoneQueued, IsStart, IsBegun, IsTurnOf, IsWorking}
use Rattle.cga_agenda.specs.Record.{Drawn, IsChange}
use Rattle.cga_derivation.specs.Derivation.{IsDerivation}
use Rattle.cga_rework.specs.Rules.{Shapes, Rules, IsRulesEdit, derivation_of, no_lots}
use Rattle.cga_rework.specs.Ranked.{Ranked, edit_of, ranked_world}
use Rattle.cga_rework.specs.Nodes.{Content, ranked_of, nodes_of, IsBound}
use Rattle.cga_rework.specs.City.{StandsOnTop, HasTops, IsCity, IsUnderway, Stands}
use Rattle.cga_rework.specs.Agenda.{numbered, AreQueued, IsTaken}
use Rattle.cga_rework.specs.Turn.{IsFit, SeesWhatMeets, IsNodeTurn, IsQuietTurn}
use Rattle.cga_rework.specs.Begin.{IsRerooted, IsRemoved, IsAdded, IsFirstAgenda}
use Rattle.cga_rework.specs.Changes.{ListsLost}
use Rattle.cga_rework.specs.Views.{count_of, exists_then, waits_then, IsCounted}

-- shapes of equal symbols have equal priorities
abbrev pub GoesBySymbol : {X S A B F P : Type 0} → Content X S A F P → Rules S A B F P → Type 0
GoesBySymbol {X} content rules =
    (x y : X) → content.symbol x ≡ content.symbol y → rules.priority (content.shape x) ≡ rules.priority (content.shape y)

module _ (X S A B F P : Type 0) where
  -- a turn of a kept tree is a turn of the work, and leaves the tree underway
  abbrev pub NodeTurns : Type 0
  NodeTurns =
      (shapes : Shapes S) (content : Content X S A F P) (old new : Rules S A B F P)
      → IsRulesEdit shapes old new → GoesBySymbol content new
      → (fits : X → X → Bool) (asks : S → Bool) (meets : S → S → Bool) → IsFit content fits
      → SeesWhatMeets new asks meets
      → (V T : View X) (small great id : ℕ) (news : List X) (e now : Seen X) (gone agenda rest after : ℕ → Bool) (expanded : Bool)
      → IsBound V small → IsBound T great
      → IsUnderway shapes content new asks V agenda
      → IsNodeTurn shapes content old new fits asks meets V T small id news e now gone agenda rest after expanded
      → (queued : Ranked S → Bool) → AreQueued shapes content V agenda queued
      → IsUnderway shapes content new asks T after
      × ((requeued : Ranked S → Bool) × AreQueued shapes content T after requeued
      × IsTurnOf (edit_of shapes old new) (nodes_of content V small) (nodes_of content T great) (ranked_of content e.node) queued requeued expanded)

  -- and so is one that changes nothing but the agenda
  abbrev pub QuietTurns : Type 0
  QuietTurns =
      (shapes : Shapes S) (content : Content X S A F P) (old new : Rules S A B F P)
      → IsRulesEdit shapes old new → GoesBySymbol content new → (asks : S → Bool)
      → (V : View X) (small id : ℕ) (e : Seen X) (agenda rest : ℕ → Bool)
      → IsBound V small
      → IsUnderway shapes content new asks V agenda
      → IsQuietTurn shapes content old new asks V small id e agenda rest
      → (queued : Ranked S → Bool) → AreQueued shapes content V agenda queued
      → IsUnderway shapes content new asks V rest
      × ((requeued : Ranked S → Bool) × AreQueued shapes content V rest requeued
      × IsTurnOf (edit_of shapes old new) (nodes_of content V small) (nodes_of content V small) (ranked_of content e.node) queued requeued false)

  -- at its turn a node has its symbol's new priority, as its instances have
  abbrev pub TakenIsPriced : Type 0
  TakenIsPriced =
      (shapes : Shapes S) (content : Content X S A F P) (rules : Rules S A B F P)
      → IsDerivation (derivation_of shapes rules) → (asks : S → Bool)
      → (V : View X) (id : ℕ) (e : Seen X) (agenda rest : ℕ → Bool)
      → IsUnderway shapes content rules asks V agenda → IsTaken shapes content V id e agenda rest
      → is_instance (content.kind e.node) ≡ false
      → content.priority e.node ≡ rules.priority (content.shape e.node)

  -- where no node is on the agenda, nothing is queued
  abbrev pub EmptyIsNone : Type 0
  EmptyIsNone =
      (shapes : Shapes S) (content : Content X S A F P) (old new : Rules S A B F P)
      (V : View X) (n : ℕ) (agenda : ℕ → Bool) (queued : Ranked S → Bool)
      → IsBound V n → AreQueued shapes content V agenda queued
      → ((c : ℕ) (d : Seen X) → V c ≡ Some d → agenda c ≡ false)
      → NoneQueued (edit_of shapes old new) (nodes_of content V n) queued

  -- what is told of an agenda can be told of ranked shapes
  abbrev pub AgendaIsQueued : Type 0
  AgendaIsQueued =
      (shapes : Shapes S) (content : Content X S A F P) (rules : Rules S A B F P)
      (V : View X) (n : ℕ) (agenda : ℕ → Bool) → IsBound V n → IsCity shapes content rules V
      → (queued : Ranked S → Bool) × AreQueued shapes content V agenda queued

  -- the roots that went and came, and the first agenda, are the beginning of the work
  abbrev pub RootsBegin : Type 0
  RootsBegin =
      (shapes : Shapes S) (content : Content X S A F P) (old new : Rules S A B F P) → IsRulesEdit shapes old new
      → (was asks : S → Bool) (meets : S → S → Bool) → SeesWhatMeets new asks meets
      → (V T : View X) (small great : ℕ) (gone agenda : ℕ → Bool)
      → IsBound V small → IsBound T great
      → Stands shapes content old was V → IsCity shapes content new T
      → IsRerooted content V T gone → IsFirstAgenda shapes content old new asks meets V T agenda
      → IsUnderway shapes content new asks T agenda
      × ((queued : Ranked S → Bool) × AreQueued shapes content T agenda queued
      × IsBegun (edit_of shapes old new) (nodes_of content V small) (nodes_of content T great) queued)

  -- after them the nodes stand at their places, if the roots are those of the new rules
  abbrev pub RerootedIsCity : Type 0
  RerootedIsCity =
      (shapes : Shapes S) (content : Content X S A F P) (old new : Rules S A B F P)
      → (V T : View X) (gone : ℕ → Bool)
      → IsCity shapes content old V → IsTree T → IsRerooted content V T gone
      → ((c : ℕ) (d : Seen X) → V c ≡ None → T c ≡ Some d → StandsOnTop shapes content d.node)
      → HasTops shapes content new T
      → IsCity shapes content new T

  -- the instances that went and came in a turn, or with roots, are a change
  pub record ListsAreChanges : Type 0 where
    pub turn : (shapes : Shapes S) (content : Content X S A F P) (old new : Rules S A B F P)
        → IsRulesEdit shapes old new → GoesBySymbol content new
        → (fits : X → X → Bool) (asks : S → Bool) (meets : S → S → Bool) → IsFit content fits
        → (V T : View X) (small great id : ℕ) (news : List X) (e now : Seen X) (gone agenda rest after : ℕ → Bool)
        (expanded : Bool)
        → IsBound V small → IsBound T great
        → IsUnderway shapes content new asks V agenda
        → IsNodeTurn shapes content old new fits asks meets V T small id news e now gone agenda rest after expanded
        → (removed created : List (Drawn (Ranked S) P)) → ListsLost content V T removed → ListsLost content T V created
        → IsChange (nodes_of content V small) (nodes_of content T great) removed created
    pub roots : (shapes : Shapes S) (content : Content X S A F P) (old new : Rules S A B F P)
        → (V T : View X) (small great : ℕ) (gone : ℕ → Bool)
        → IsBound V small → IsBound T great
        → IsCity shapes content old V → IsCity shapes content new T → IsRerooted content V T gone
        → (removed : List (Drawn (Ranked S) P)) → ListsLost content V T removed
        → IsChange (nodes_of content V small) (nodes_of content T great) removed []
    pub quiet : (content : Content X S A F P) (V : View X) (n : ℕ)
        → IsChange (nodes_of content V n) (nodes_of content V n) [] []

  -- what a node is answered over all nodes is what it is answered over the shapes that two walks count
  abbrev pub WalkAsks : Type 0
  WalkAsks =
      (shapes : Shapes S) (content : Content X S A F P) (old new : Rules S A B F P) → IsRulesEdit shapes old new
      → (T : View X) (n : ℕ) → IsBound T n → IsCity shapes content new T
      → (c : ℕ) (q : Seen X) → T c ≡ Some q → (existing waiting : List S)
      → IsCounted content new T q.node (exists_then shapes content T q.node) existing
      → IsCounted content new T q.node (waits_then shapes content T q.node) waiting
      → asked (ranked_world shapes new) (nodes_of content T n) (ranked_of content q.node)
      ≡ new.answers (content.shape q.node) existing waiting

  -- the list of a view
  pub record ListsAreViews : Type 0 where
    -- equal views are equal lists, whatever the bound
    pub same : (content : Content X S A F P) (V T : View X) (n m : ℕ) → ((c : ℕ) → T c ≡ V c)
        → IsBound V n → IsBound V m → nodes_of content T m ≡ nodes_of content V n
    pub size : (content : Content X S A F P) (T : View X) (n : ℕ) → length (nodes_of content T n) ≡ count_of T n
    pub once : (shapes : Shapes S) (content : Content X S A F P) (rules : Rules S A B F P) (T : View X) (n : ℕ)
        → IsCity shapes content rules T → StandOnce (nodes_of content T n)

  -- from one edit to the next
  pub record StandsAgain : Type 0 where
    -- what the work leaves stands for the new rules
    pub done : (shapes : Shapes S) (content : Content X S A F P) (old new : Rules S A B F P)
        (asks : S → Bool) (T : View X) (n : ℕ) (start : List (Node (Ranked S) A F P)) (agenda : ℕ → Bool) (queued : Ranked S → Bool) (turned worked : List (Ranked S))
        → IsBound T n → IsUnderway shapes content new asks T agenda
        → AreQueued shapes content T agenda queued
        → IsWorking (edit_of shapes old new) start (nodes_of content T n) queued turned worked
        → NoneQueued (edit_of shapes old new) (nodes_of content T n) queued
        → Stands shapes content new asks T
    -- what stands is what an edit starts from
    pub start : (shapes : Shapes S) (content : Content X S A F P) (old new : Rules S A B F P) (asks : S → Bool)
        (V : View X) (n : ℕ)
        → IsBound V n → Stands shapes content old asks V → IsStart (edit_of shapes old new) (nodes_of content V n)
    -- put back as it was, it stands as it did
    pub back : (shapes : Shapes S) (content : Content X S A F P) (rules : Rules S A B F P) (asks : S → Bool)
        (V T : View X)
        → ((c : ℕ) → T c ≡ V c) → Stands shapes content rules asks V → Stands shapes content rules asks T
    -- no node at all stands for rules without lots
    pub nothing : (shapes : Shapes S) (content : Content X S A F P) (rules : Rules S A B F P) (asks : S → Bool)
        (V : View X)
        → ((c : ℕ) → V c ≡ None) → Stands shapes content (no_lots rules) asks V

-- the numbers that a map's entries name
abbrev pub EntriesNumber : (K : Type 0) → Type 0
EntriesNumber K =
    (entries : List (K × ℕ)) (c : ℕ) → (numbered entries c ≡ true) ↔ ((k : K) × Among (k, c) entries)

-- removals and additions of roots, one after the other
pub record RootsAddUp (X S A F P : Type 0) : Type 0 where
  pub nothing : (content : Content X S A F P) (V : View X) → IsRerooted content V V (λ c. false)
  pub removal : (content : Content X S A F P) (V U T : View X) (gone removed : ℕ → Bool)
      → IsRerooted content V U gone → IsRemoved content U T removed → IsRerooted content V T (λ c. gone c || removed c)
  pub addition : (content : Content X S A F P) (V U T : View X) (gone : ℕ → Bool) (id : ℕ) (x : Seen X)
      → IsRerooted content V U gone → IsAdded content V U T id x → IsRerooted content V T gone
