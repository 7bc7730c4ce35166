-- The nodes of a forest as a tree, and what each change makes of it.
use Rattle.std.specs.Prelude.{◌≡◌, ◌≢◌, ◌⊎◌, ◌↔◌, ℕ, zero, suc, ◌<◌, ◌≤◌, List, [], length, Option, Some, None, Bool, true, false, ◌||◌, nat_eq, slice_get, if◌then◌else◌}
use Rattle.std.specs.List.{list_any}
use Rattle.cga_frame.specs.Box.{Box, holds}
use Rattle.cga_forest.specs.declared.slot_entry.SlotEntry.{SlotEntry}
use Rattle.cga_forest.specs.declared.node.Node.{Node}
use Rattle.cga_kept_hulls.specs.declared.hulls.Hulls.{Hulls}
use Rattle.cga_forest.specs.declared.node.NodeState.{NodeState}
use Rattle.cga_forest.specs.Node.{bounds, chain_kept, fits, with_state, IsBelow, IsTop}
use Rattle.cga_forest.specs.Hull.{own_hulls, hulls_known}
use Rattle.cga_kept_hulls.specs.Hull.{over, with_hulls, alike}
use Rattle.cga_word.specs.declared.mode.Mode.{Mode}
use Rattle.cga_order.specs.Chain as order
use Rattle.cga_order.specs.World.{is_instance}
use Rattle.cga_forest.specs.Roots.{HasRoots}
use Rattle.cga_marked.specs.Map.{Named}
use Rattle.cga_tree.specs.Tree.{IsTree}
use Rattle.cga_tree.specs.Replaced.{fits_at, IsReplaced}
use Rattle.cga_forest.specs.View.{Seen, IsPlain, IsNewEntry, last_from, slot, present_of, marked_of, hulls_of, marked_hulls_of}

-- c is the node or, at most n levels in all, below it
unfoldable pub under : (ℕ → List ℕ) → ℕ → ℕ → ℕ → Bool
under children zero id c = false
under children (suc n) id c = nat_eq id c || list_any (λ k. under children n k c) (children id)

-- the node's hulls are alike with those of its own box and of its children's hulls
abbrev pub IsRight : (ℕ → Option Hulls) → ℕ → Seen → Type 0
IsRight H c e = (h : Hulls) × (H c ≡ Some h) × (alike h (over H (own_hulls e.node) e.children (length e.children)) ≡ true)

abbrev pub AllRight : (ℕ → Option Seen) → (ℕ → Option Hulls) → Type 0
AllRight T H = (c : ℕ) (e : Seen) → T c ≡ Some e → IsRight H c e

-- all but those of the one node
abbrev pub RightBut : (ℕ → Option Seen) → (ℕ → Option Hulls) → ℕ → Type 0
RightBut T H id = (c : ℕ) (e : Seen) → c ≢ id → T c ≡ Some e → IsRight H c e

-- where a child grew to these hulls, they and the node's own old ones together are right
abbrev pub IsDue : (ℕ → Option Seen) → (ℕ → Option Hulls) → ℕ → Option Hulls → Type 0
IsDue T H id grown = (e : Seen) (old k : Hulls) → T id ≡ Some e → H id ≡ Some old → grown ≡ Some k → alike (with_hulls old (Some k)) (over H (own_hulls e.node) e.children (length e.children)) ≡ true

-- the nodes stand where their shapes say
pub record InPlace (T : ℕ → Option Seen) : Type 0 where
  pub root : (c : ℕ) (d : Seen) → T c ≡ Some d → d.parent ≡ None → IsTop d.node
  pub child : (c p : ℕ) (d e : Seen) → T c ≡ Some d → d.parent ≡ Some p → T p ≡ Some e → IsBelow e.node d.index d.node
  pub chain : (c : ℕ) (d : Seen) → T c ≡ Some d → order.IsWhole (chain_kept d.node)

-- no node has more children than one expansion makes
abbrev pub HaveFew : (ℕ → Option Seen) → Type 0
HaveFew T = (c : ℕ) (e : Seen) → T c ≡ Some e → length e.children ≤ 4096

pub record IsWhole (T : ℕ → Option Seen) (H : ℕ → Option Hulls) : Type 0 where
  pub tree : IsTree T
  pub places : InPlace T
  pub right : AllRight T H
  pub few : HaveFew T

pub record ForestView : Type 0 where
  pub slots : List (Option SlotEntry)
  pub marking : Bool
  pub roots : Named
  pub marked_roots : Named
  pub mode : Mode

abbrev pub slot_at : ForestView → ℕ → Option SlotEntry
slot_at v id = slot v.slots id

abbrev pub node_at : ForestView → ℕ → Option Seen
node_at v id = present_of (slot_at v id)

abbrev pub marked_at : ForestView → ℕ → Option Seen
marked_at v id = marked_of (slot_at v id)

abbrev pub hulls_at : ForestView → ℕ → Option Hulls
hulls_at v id = hulls_of (slot_at v id)

abbrev pub marked_hulls_at : ForestView → ℕ → Option Hulls
marked_hulls_at v id = marked_hulls_of (slot_at v id)

pub record IsForest (v : ForestView) : Type 0 where
  pub present : IsWhole (node_at v) (hulls_at v)
  pub marked : v.marking ≡ true → IsWhole (marked_at v) (marked_hulls_at v)
  pub tops : HasRoots (node_at v) v.roots
  pub marked_tops : v.marking ≡ true → HasRoots (marked_at v) v.marked_roots
  pub unmarked : v.marking ≡ false → v.marked_roots ≡ v.roots
  pub plain : v.marking ≡ false → (id : ℕ) (e : SlotEntry) → slot_at v id ≡ Some e → IsPlain e

-- the children of a node that is there
abbrev pub children_of : Option Seen → List ℕ
children_of None = []
children_of (Some e) = e.children

abbrev pub children_at : ForestView → ℕ → List ℕ
children_at v id = children_of (node_at v id)

-- the marked nodes are as before
abbrev pub KeepsMark : ForestView → ForestView → Type 0
KeepsMark old new = (new.marking ≡ old.marking) × (old.marking ≡ true → (c : ℕ) → marked_at new c ≡ marked_at old c)

-- the box is the least that holds the boxes of the node and of all below it
abbrev pub IsLeastHull : ForestView → ℕ → Box → Type 0
IsLeastHull v id h = (b : Box) → (holds b h ≡ true) ↔ ((c : ℕ) (d : Seen) → under (children_at v) 257 id c ≡ true → node_at v c ≡ Some d → holds b (bounds d.node) ≡ true)

-- none of those that ask is at or below the node
abbrev pub NoneAsks : ForestView → ℕ → Type 0
NoneAsks v id = (c : ℕ) (d : Seen) → under (children_at v) 257 id c ≡ true → node_at v c ≡ Some d → d.node.asks ≡ false

abbrev pub IsLeastAsking : ForestView → ℕ → Box → Type 0
IsLeastAsking v id h = (b : Box) → (holds b h ≡ true) ↔ ((c : ℕ) (d : Seen) → under (children_at v) 257 id c ≡ true → node_at v c ≡ Some d → d.node.asks ≡ true → holds b (bounds d.node) ≡ true)

abbrev pub stay_of : Option SlotEntry → Option Node → Bool
stay_of None new = false
stay_of (Some e) new = fits_at fits e.node new

abbrev pub stay_child : (ℕ → Option SlotEntry) → Option ℕ → Node → Option ℕ
stay_child s None new = None
stay_child s (Some k) new = if stay_of (s k) (Some new) then Some k else None

-- c goes with the old child at a place, unless that stays
abbrev pub goes_at : (ℕ → List ℕ) → ℕ → (ℕ → Option Node → Bool) → Option ℕ → Option Node → ℕ → Bool
goes_at K n P None new c = false
goes_at K n P (Some k) new c = if P k new then false else under K n k c

-- c goes with one of the first so many old children
unfoldable pub goes : (ℕ → List ℕ) → ℕ → (ℕ → Option Node → Bool) → List ℕ → List Node → ℕ → ℕ → Bool
goes K n P olds news zero c = false
goes K n P olds news (suc i) c = goes K n P olds news i c || goes_at K n P (slice_get olds i) (slice_get news i) c

-- the child at a place of the new list is the old one there, which fits, or it came, where the old one doesn't fit
abbrev pub IsPlacedChild : (ℕ → Option SlotEntry) → (ℕ → Option SlotEntry) → ℕ → ℕ → Bool → List ℕ → Node → ℕ → ℕ → Type 0
IsPlacedChild old now id depth marking olds w i c =
    ((slice_get olds i ≡ Some c) × (stay_of (old c) (Some w) ≡ true))
    ⊎ ((old c ≡ None) × IsNewEntry (now c) (Some id) w depth i marking × ((k : ℕ) → slice_get olds i ≡ Some k → stay_of (old k) (Some w) ≡ false))

-- the node has the path of child i at that depth
abbrev pub IsAt : ℕ → ℕ → Node → Type 0
IsAt depth i w = (length w.shape.path ≡ depth) × (last_from 0 w.shape.path ≡ i)

-- the children so far are old ones at their places, or came, and nothing else changed
pub record IsPlaced (old now : ℕ → Option SlotEntry) (id depth : ℕ) (marking : Bool) (olds : List ℕ) (news : List Node) (made : List ℕ) : Type 0 where
  pub each : (i c : ℕ) → slice_get made i ≡ Some c
      → (w : Node) × (slice_get news i ≡ Some w) × IsPlacedChild old now id depth marking olds w i c
  pub rest : (c : ℕ) (e : SlotEntry) → old c ≡ Some e → now c ≡ Some e
  pub created : (c : ℕ) → old c ≡ None → (now c ≡ None) ⊎ ((i : ℕ) × (slice_get made i ≡ Some c))

abbrev pub depth_at : Option SlotEntry → ℕ
depth_at None = 0
depth_at (Some e) = length e.node.shape.path

-- the node isn't an instance, nor in that state, and these few are children of it
pub record IsInner (e : Seen) (state : NodeState) (news : List Node) : Type 0 where
  pub low : 0 < length news → e.depth < 256
  pub was : is_instance e.node.kind ≡ false
  pub is : is_instance state.kind ≡ false
  pub few : length news ≤ 4096
  pub children : (i : ℕ) (w : Node) → slice_get news i ≡ Some w → IsBelow (with_state state e.node) i w

-- there is a node, and it may have such children
abbrev pub HasInner : Option Seen → NodeState → List Node → Type 0
HasInner slot state news = (e : Seen) × (slot ≡ Some e) × IsInner e state news

-- a node's content and children are replaced, and the nodes go that the test names
abbrev pub ReplacedBy : (ℕ → Option Seen) → (ℕ → Option Seen) → ℕ → NodeState → List Node → (ℕ → Bool) → Type 0
ReplacedBy old new id state news gone = (e : Seen) × (children : List ℕ) × IsReplaced fits old new id news e (record e { node = with_state state e.node; children = children }) gone

-- a node's content and children are replaced, and the subtrees of the children that go
abbrev pub Replaces : (ℕ → Option Seen) → (ℕ → Option Seen) → ℕ → NodeState → List Node → Type 0
Replaces old new id state news = (e : Seen) × (children : List ℕ) × (gone : ℕ → Bool) × IsReplaced fits old new id news e (record e { node = with_state state e.node; children = children }) gone

-- the hulls of a slot from its content and its children's hulls
abbrev pub hulls_now : (ℕ → Option Hulls) → Option SlotEntry → Option Hulls
hulls_now H None = None
hulls_now H (Some e) = Some (over H (own_hulls e.node) e.children.items (length e.children.items))

-- the hulls of a slot from its content and its children's hulls, or its old hulls with those of a child that grew
abbrev pub hulls_next : (ℕ → Option Hulls) → Option SlotEntry → Option Hulls → Option Hulls
hulls_next H s None = hulls_now H s
hulls_next H None (Some k) = None
hulls_next H (Some e) (Some k) = Some (with_hulls (hulls_known e.node e.hulls) (Some k))

abbrev pub parent_of : Option SlotEntry → Option ℕ
parent_of None = None
parent_of (Some e) = e.parent

abbrev pub content_of : Option Seen → Option Node
content_of None = None
content_of (Some d) = Some d.node

abbrev pub above : Option Seen → Option ℕ
above None = None
above (Some d) = d.parent

-- the node is the root of the lot of that name
abbrev pub IsRootOf : (ℕ → Option Seen) → List ℕ → ℕ → Type 0
IsRootOf T name c = (d : Seen) × (T c ≡ Some d) × (d.parent ≡ None) × (d.node.shape.lot ≡ name)

-- no lot of that name is there
abbrev pub HasNoLot : ForestView → List ℕ → Type 0
HasNoLot v name = (c : ℕ) → IsRootOf (node_at v) name c → ⊥

-- a root and all below it are gone, and all else is as before
abbrev pub IsWithout : ForestView → ForestView → ℕ → Type 0
IsWithout old new root = (c : ℕ) → node_at new c ≡ (if under (children_at old) 257 root c then None else node_at old c)
