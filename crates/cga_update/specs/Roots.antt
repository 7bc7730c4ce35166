-- The roots that go and come when an edit begins.
use Rattle.std.specs.Prelude.{◌≡◌, ◌⊎◌, ℕ, ◌<◌, List, [], Option, Some, None, Ok, true, is_some, slice_get, if◌then◌else◌}
use Rattle.std.specs.Map.{lookup}
use Rattle.cga_check.specs.Uses.{same_name}
use Rattle.cga_order.specs.declared.placed.Kind.TheVariants.{Waiting}
use Rattle.cga_shape.specs.Root.{root_of}
use Rattle.cga_shape.specs.declared.lot.Lot.{Lot}
use Rattle.cga_shape.specs.declared.sources.Sources.{Sources}
use Rattle.cga_expand.specs.Derivation.{priority_of}
use Rattle.cga_forest.specs.declared.node_change.NodeChange.{NodeChange}
use Rattle.cga_forest.specs.declared.node.Node.{Node}
use Rattle.cga_forest.specs.NodeChange.{ListsOnlyIn}
use Rattle.cga_forest.specs.View.{Seen}
use Rattle.cga_forest.specs.Tree.{ForestView, node_at, marked_at}
use Rattle.cga_update.specs.declared.changed_lots.ChangedLots.{ChangedLots}
use Rattle.cga_update.specs.declared.changed_lots.ChangedLots.TheVariants as changed

abbrev pub View : Type 0
View = ℕ → Option Seen

-- it is the root of the lot, with this priority
pub record IsRootFor (lot : Lot) (p : ℕ) (n : Node) : Type 0 where
  pub shape : root_of lot ≡ Ok n.shape
  pub priority : n.priority ≡ p

-- it is the root of one of the lots
pub record IsWanted (sources : Sources) (n : Node) : Type 0 where
  pub place : ℕ
  pub lot : Lot
  pub listed : slice_get sources.lots place ≡ Some lot
  pub root : IsRootFor lot (priority_of sources.grammar lot.symbol) n

-- the first n lots of a list under their names
pub record AreByName (lots : List Lot) (n : ℕ) (named : List (List ℕ × Lot)) : Type 0 where
  pub only : (name : List ℕ) (lot : Lot) → lookup (same_name name) named ≡ Some lot
      → (lot.name ≡ name) × ((i : ℕ) × (slice_get lots i ≡ Some lot))
  pub all : (i : ℕ) (lot : Lot) → i < n → slice_get lots i ≡ Some lot
      → (other : Lot) × (lookup (same_name lot.name) named ≡ Some other)

-- the lot of that name among these, where there is one
pub record IsLotNamed (lots : List Lot) (name : List ℕ) (found : Option Lot) : Type 0 where
  pub only : (lot : Lot) → found ≡ Some lot → (lot.name ≡ name) × ((i : ℕ) × (slice_get lots i ≡ Some lot))
  pub none : found ≡ None → (i : ℕ) (lot : Lot) → slice_get lots i ≡ Some lot → lot.name ≡ name → ⊥

-- the lot at a place, where there is one
abbrev pub lot_at : List Lot → Option ℕ → Option Lot
lot_at lots None = None
lot_at lots (Some i) = slice_get lots i

-- the lot, where it has the name
abbrev pub if_named : List ℕ → Option Lot → Option Lot
if_named name None = None
if_named name (Some lot) = if same_name lot.name name then Some lot else None

-- the node is there and is a root, of the lot of that name
abbrev pub IsRootNamed : View → List ℕ → ℕ → Seen → Type 0
IsRootNamed T name c d = (T c ≡ Some d) × (d.parent ≡ None) × (d.node.shape.lot ≡ name)

-- of the nodes V of the mark some roots went, each with all below it, which are listed; and nothing came
pub record HasLost (V : View) (f : ForestView) (list : List NodeChange) : Type 0 where
  pub marking : f.marking ≡ true
  pub marked : (c : ℕ) → marked_at f c ≡ V c
  pub rest : (c : ℕ) (d : Seen) → V c ≡ Some d → (node_at f c ≡ Some d) ⊎ (node_at f c ≡ None)
  pub none : (c : ℕ) → V c ≡ None → node_at f c ≡ None
  pub along : (c p : ℕ) (d : Seen) → V c ≡ Some d → d.parent ≡ Some p → is_some (node_at f c) ≡ is_some (node_at f p)
  pub removed : ListsOnlyIn V (node_at f) list

-- a root that came: it waits, and isn't equal to a root of the mark
pub record IsNewRoot (V : View) (d : Seen) : Type 0 where
  pub top : d.parent ≡ None
  pub leaf : d.children ≡ []
  pub waits : d.node.kind ≡ Waiting
  pub other : (b : ℕ) (x : Seen) → V b ≡ Some x → x.parent ≡ None → x.node.shape ≡ d.node.shape
      → x.node.priority ≡ d.node.priority → ⊥

-- of the nodes V of the mark some roots went, each with all below it, which are listed; and roots came
pub record IsRerooted (V : View) (f : ForestView) (list : List NodeChange) : Type 0 where
  pub marking : f.marking ≡ true
  pub marked : (c : ℕ) → marked_at f c ≡ V c
  pub rest : (c : ℕ) (d : Seen) → V c ≡ Some d → (node_at f c ≡ Some d) ⊎ (node_at f c ≡ None)
  pub created : (c : ℕ) (d : Seen) → V c ≡ None → node_at f c ≡ Some d → IsNewRoot V d
  pub along : (c p : ℕ) (d : Seen) → V c ≡ Some d → d.parent ≡ Some p → is_some (node_at f c) ≡ is_some (node_at f p)
  pub removed : ListsOnlyIn V (node_at f) list

-- nothing came, and what is wanted stays
pub record Loses (sources : Sources) (before after : ForestView) : Type 0 where
  pub less : (c : ℕ) (d : Seen) → node_at after c ≡ Some d → node_at before c ≡ Some d
  pub wanted : (c : ℕ) (d : Seen) → node_at before c ≡ Some d → d.parent ≡ None → IsWanted sources d.node
      → node_at after c ≡ Some d

-- each root is wanted
abbrev pub AllWanted : Sources → ForestView → Type 0
AllWanted sources f = (c : ℕ) (d : Seen) → node_at f c ≡ Some d → d.parent ≡ None → IsWanted sources d.node

-- the roots of the first n of some lots are wanted
abbrev pub AreWanted : Sources → List Lot → ForestView → ℕ → Type 0
AreWanted sources lots f n =
    (i : ℕ) (lot : Lot) → i < n → slice_get lots i ≡ Some lot
    → (c : ℕ) (d : Seen) → IsRootNamed (node_at f) lot.name c d → IsWanted sources d.node

-- of each lot there is the root but maybe of the one at a place
abbrev pub AreThereBut : Option ℕ → Sources → ForestView → Type 0
AreThereBut place sources f =
    (i : ℕ) (lot : Lot) → slice_get sources.lots i ≡ Some lot → (place ≡ Some i → ⊥)
    → (c : ℕ) × (d : Seen) × IsRootNamed (node_at f) lot.name c d

-- of each lot that an edit didn't change there is the root
abbrev pub AreThereStill : ChangedLots → Sources → ForestView → Type 0
AreThereStill changed.Nothing sources f = AreThereBut None sources f
AreThereStill (changed.One _ come) sources f = AreThereBut come sources f
AreThereStill changed.All sources f = Unit {0}

-- of each of the first n lots there is the root
abbrev pub AreThere : Sources → ForestView → ℕ → Type 0
AreThere sources f n =
    (i : ℕ) (lot : Lot) → i < n → slice_get sources.lots i ≡ Some lot
    → (c : ℕ) × (d : Seen) × IsRootNamed (node_at f) lot.name c d

-- the nodes of the first view are nodes of the second
abbrev pub AreWithin : View → View → Type 0
AreWithin S T = (c : ℕ) (d : Seen) → S c ≡ Some d → T c ≡ Some d

-- a wanted root that came, where there was none of its lot, under a number that is none of the mark
pub record IsGained (sources : Sources) (before : ForestView) (c : ℕ) (d : Seen) : Type 0 where
  pub top : d.parent ≡ None
  pub leaf : d.children ≡ []
  pub waits : d.node.kind ≡ Waiting
  pub wanted : IsWanted sources d.node
  pub unmarked : before.marking ≡ true → marked_at before c ≡ None
  pub first : (b : ℕ) (x : Seen) → IsRootNamed (node_at before) d.node.shape.lot b x → ⊥

-- all stays, and such roots came
pub record Gains (sources : Sources) (before after : ForestView) : Type 0 where
  pub marking : after.marking ≡ before.marking
  pub marked : before.marking ≡ true → (c : ℕ) → marked_at after c ≡ marked_at before c
  pub more : (c : ℕ) (d : Seen) → node_at before c ≡ Some d → node_at after c ≡ Some d
  pub new : (c : ℕ) (d : Seen) → node_at before c ≡ None → node_at after c ≡ Some d → IsGained sources before c d
