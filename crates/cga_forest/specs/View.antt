use Rattle.std.specs.Prelude.{◌≡◌, ℕ, List, [], ◌∷◌, length, Option, Some, None, option_map, option_and_then, Bool, true, false, not, ◌&&◌, is_some, slice_index_or, if◌then◌else◌}
use Rattle.cga_marked.specs.Marked as marked
use Rattle.cga_marked.specs.Slab.{SlabView, passes}
pub use Rattle.cga_marked.specs.Slab.{HasRoom, KeepsRoom}
use Rattle.cga_tree.specs.Tree as tree
use Rattle.cga_forest.specs.declared.slot_entry.SlotEntry.{SlotEntry}
use Rattle.cga_forest.specs.declared.former.Former.{Former}
use Rattle.cga_forest.specs.declared.node.Node.{Node}
use Rattle.cga_kept_hulls.specs.declared.hulls.Hulls.{Hulls}
use Rattle.cga_forest.specs.declared.node.NodeState.{NodeState}
use Rattle.cga_forest.specs.Node.{with_state}
use Rattle.cga_kept_hulls.specs.declared.kept_hulls.KeptHulls.{KeptHulls}
use Rattle.cga_kept_hulls.specs.declared.kept_hulls.KeptHulls.TheVariants.{Own}
use Rattle.cga_forest.specs.Hull.{hulls_known}

abbrev pub slot : List (Option SlotEntry) → ℕ → Option SlotEntry
slot slots id = slice_index_or slots id None

abbrev pub kids : Option SlotEntry → List ℕ
kids None = []
kids (Some e) = e.children.items

-- ---- what is kept for each entry

-- an entry that keeps nothing for a mark
pub record IsPlain (e : SlotEntry) : Type 0 where
  pub here : e.aside ≡ false
  pub old : e.created ≡ false
  pub same : e.former ≡ None
  pub hulls : e.former_hulls ≡ None

abbrev pub touched_of : SlotEntry → Bool
touched_of e = e.touched

abbrev pub aside_of : SlotEntry → Bool
aside_of e = e.aside

-- what no write of content or hulls changes
abbrev pub KeepsBooks : SlotEntry → SlotEntry → Type 0
KeepsBooks = marked.KeepsBooks touched_of aside_of IsPlain

abbrev pub is_shown : Option SlotEntry → Bool
is_shown = passes (λ e. not e.aside)

abbrev pub touched_entry : SlotEntry → SlotEntry
touched_entry e = record e { touched = true }

abbrev pub hidden_entry : SlotEntry → SlotEntry
hidden_entry e = record e { aside = true }

-- ---- the store

abbrev pub StoreView : Type 0
StoreView = SlabView SlotEntry

abbrev pub at : StoreView → ℕ → Option SlotEntry
at v id = slot v.slots id

-- the entry, set aside where the test says so
abbrev pub flag_if : Bool → Option SlotEntry → Option SlotEntry
flag_if false slot = slot
flag_if true slot = option_map (λ e. hidden_entry (touched_entry e)) slot

-- ---- what a contract sees of a node

-- a node of the tree
abbrev pub Seen : Type 0
Seen = tree.Seen Node

-- the fields that the mark can change, put back
abbrev pub restored : SlotEntry → Option Former → SlotEntry
restored e None = e
restored e (Some f) = record e { node = with_state f.state e.node; children = f.children }

abbrev pub former_hulls : KeptHulls → Option KeptHulls → KeptHulls
former_hulls h None = h
former_hulls h (Some k) = k

-- the last, where there is one
abbrev pub last_from : ℕ → List ℕ → ℕ
last_from d [] = d
last_from d (x ∷ xs) = last_from x xs

-- its depth and its place among its siblings are told by its path
abbrev pub seen : SlotEntry → Seen
seen e = record { node = e.node; depth = length e.node.shape.path; parent = e.parent; index = last_from 0 e.node.shape.path; children = e.children.items }

-- the present node of a slot, and the marked one
abbrev pub present_of : Option SlotEntry → Option Seen
present_of None = None
present_of (Some e) = if e.aside then None else Some (seen e)

abbrev pub marked_of : Option SlotEntry → Option Seen
marked_of None = None
marked_of (Some e) = if e.created then None else Some (seen (restored e e.former))

-- their hulls
abbrev pub hulls_of : Option SlotEntry → Option Hulls
hulls_of None = None
hulls_of (Some e) = Some (hulls_known e.node e.hulls)

abbrev pub marked_hulls_of : Option SlotEntry → Option Hulls
marked_hulls_of None = None
marked_hulls_of (Some e) = if e.created then None else Some (hulls_known e.node (former_hulls e.hulls e.former_hulls))

-- what is left of an entry once the mark is dropped, and once the marked node is put back
abbrev pub settled_entry : SlotEntry → Option SlotEntry
settled_entry e = if e.aside then None else Some (record e { created = false; touched = false; former = None; former_hulls = None })

abbrev pub rolled_entry : SlotEntry → Option SlotEntry
rolled_entry e = if e.created then None else Some
    (record (restored e e.former) {
      hulls = former_hulls e.hulls e.former_hulls;
      aside = false;
      created = false;
      touched = false;
      former = None;
      former_hulls = None;
    })

-- a slot, settled
abbrev pub settled : Option SlotEntry → Option SlotEntry
settled = option_and_then settled_entry

abbrev pub rolled : Option SlotEntry → Option SlotEntry
rolled = option_and_then rolled_entry

-- another state and other children, where there is a node
abbrev pub rewritten : NodeState → List ℕ → Option Seen → Option Seen
rewritten state children None = None
rewritten state children (Some e) = Some (record e { node = with_state state e.node; children = children })

-- other hulls
abbrev pub rehulled : Hulls → Option Hulls → Option Hulls
rehulled h None = None
rehulled h (Some k) = Some h

-- ---- changes of an entry

-- whether what the entry was is to be kept for the mark, where it gets other content
abbrev pub keeps_former : Bool → Option SlotEntry → Bool
keeps_former marking None = false
keeps_former marking (Some e) = marking && not e.created && not (is_some e.former)

-- it has another state and other children, and keeps what it was for the mark, where there is a box for that
pub record IsRewritten (marking has_box : Bool) (state : NodeState) (children : List ℕ) (x y : SlotEntry) : Type 0 where
  pub present : present_of (Some y) ≡ rewritten state children (present_of (Some x))
  pub marked : marking ≡ true → (keeps_former marking (Some x) ≡ true → has_box ≡ true)
      → marked_of (Some y) ≡ marked_of (Some x)
  pub hulls : hulls_of (Some y) ≡ hulls_of (Some x)
  pub marked_hulls : marked_hulls_of (Some y) ≡ marked_hulls_of (Some x)

-- it has other hulls
pub record IsRehulled (marking : Bool) (h : Hulls) (x y : SlotEntry) : Type 0 where
  pub present : present_of (Some y) ≡ present_of (Some x)
  pub marked : marked_of (Some y) ≡ marked_of (Some x)
  pub hulls : hulls_of (Some y) ≡ Some h
  pub marked_hulls : marking ≡ true → marked_hulls_of (Some y) ≡ marked_hulls_of (Some x)

-- a child that came
pub record IsNewEntry (slot : Option SlotEntry) (above : Option ℕ) (content : Node) (depth place : ℕ) (marking : Bool) : Type 0 where
  pub entry : SlotEntry
  pub here : slot ≡ Some entry
  pub node : entry.node ≡ content
  pub parent : entry.parent ≡ above
  pub index : last_from 0 entry.node.shape.path ≡ place
  pub deep : length entry.node.shape.path ≡ depth
  pub leaf : entry.children.items ≡ []
  pub hulls : entry.hulls ≡ Own content.asks
  pub shows : entry.aside ≡ false
  pub comes : entry.created ≡ marking
  pub nothing : entry.former ≡ None
  pub no_hulls : entry.former_hulls ≡ None
