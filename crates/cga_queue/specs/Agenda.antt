-- The agenda: numbers of nodes by the stamps at which they are to be looked at. An entry stays when its node goes, and
-- says nothing then.
use Rattle.std.specs.Prelude.{◌≡◌, ◌⊎◌, ℕ, List, Option, Some, None, IsSome, Bool, true, false, ◌&&◌, nat_eq}
use Rattle.std.specs.declared.cmp.Ordering.{Ordering}
use Rattle.std.specs.declared.cmp.Ordering.TheVariants.{Less, Equal, Greater}
use Rattle.std.specs.List.{list_any}
use Rattle.std.specs.Ordering.{is_eq, is_lt}
use Rattle.cga_word.specs.declared.mode.Mode.{Mode}
use Rattle.cga_order.specs.Chain.{Chain}
use Rattle.cga_order.specs.Stamp.{stamp_cmp}
use Rattle.cga_order.specs.World.{Among}
use Rattle.cga_order.specs.declared.stamp_key.StampKey.{StampKey}
use Rattle.cga_order.specs.Key.{chain_of_key}

pub record AgendaView : Type 0 where
  pub mode : Mode
  pub entries : List (StampKey × ℕ)

-- the keys are of the agenda's mode
abbrev pub OfOneMode : Mode → List (StampKey × ℕ) → Type 0
OfOneMode mode entries = (k : StampKey) (id : ℕ) → Among (k, id) entries → k.mode ≡ mode

-- an entry at the stamp of this chain names the number
abbrev pub Names : AgendaView → Chain → ℕ → Type 0
Names a chain id = (k : StampKey) × Among (k, id) a.entries × (stamp_cmp a.mode (chain_of_key k) chain ≡ Equal)

-- a number was put on it, in the place of what was there at its stamp
pub record IsPut (old new : AgendaView) (chain : Chain) (id : ℕ) : Type 0 where
  pub mode : new.mode ≡ old.mode
  pub there : Names new chain id
  pub kept : (c : Chain) (i : ℕ) → Names old c i → (stamp_cmp old.mode chain c ≡ Equal) ⊎ Names new c i
  pub only : (c : Chain) (i : ℕ) → Names new c i → ((i ≡ id) × (stamp_cmp old.mode chain c ≡ Equal)) ⊎ Names old c i

-- the number of the least stamp was taken off it
pub record IsPopped (old new : AgendaView) (chain : Chain) (id : ℕ) : Type 0 where
  pub mode : new.mode ≡ old.mode
  pub there : Names old chain id
  pub kept : (c : Chain) (i : ℕ) → Names old c i → ((i ≡ id) × (stamp_cmp old.mode chain c ≡ Equal)) ⊎ Names new c i
  pub only : (c : Chain) (i : ℕ) → Names new c i → Names old c i
  pub later : (c : Chain) (i : ℕ) → Names new c i → stamp_cmp old.mode chain c ≡ Less

abbrev pub NamesNone : AgendaView → Type 0
NamesNone a = (c : Chain) (i : ℕ) → Names a c i → ⊥

-- ---- the nodes that are on it, where each node that may be has a chain

abbrev pub Chains : Type 0
Chains = ℕ → Option Chain

-- the node stands at the stamp of the key
abbrev pub is_due : Mode → StampKey → Option Chain → Bool
is_due mode k None = false
is_due mode k (Some chain) = is_eq (stamp_cmp mode (chain_of_key k) chain)

-- an entry at the node's stamp names it
unfoldable pub on : Chains → AgendaView → ℕ → Bool
on D a c = list_any (λ e. nat_eq e.1 c && is_due a.mode e.0 (D c)) a.entries

-- no two nodes stand at one stamp
abbrev pub OneEach : Chains → Type 0
OneEach D = (mode : Mode) (c b : ℕ) (x y : Chain) → D c ≡ Some x → D b ≡ Some y → stamp_cmp mode x y ≡ Equal → c ≡ b

-- all that was on it is, and what else is P tells
pub record Grows (D : Chains) (P : ℕ → Type 0) (old new : AgendaView) : Type 0 where
  pub mode : new.mode ≡ old.mode
  pub kept : (c : ℕ) → on D old c ≡ true → on D new c ≡ true
  pub only : (c : ℕ) → on D new c ≡ true → (on D old c ≡ true) ⊎ P c

-- the node of least stamp was taken off it
pub record IsLeast (D : Chains) (old new : AgendaView) (id : ℕ) (chain : Chain) : Type 0 where
  pub mode : new.mode ≡ old.mode
  pub here : D id ≡ Some chain
  pub there : on D old id ≡ true
  pub left : (c : ℕ) → on D new c ≡ true → on D old c ≡ true
  pub later : (c : ℕ) (x : Chain) → D c ≡ Some x → on D new c ≡ true → stamp_cmp old.mode chain x ≡ Less
  pub stay : (c : ℕ) → on D old c ≡ true → (c ≡ id) ⊎ (on D new c ≡ true)

-- both agendas have the same nodes
pub record SameOn (D : Chains) (old new : AgendaView) : Type 0 where
  pub mode : new.mode ≡ old.mode
  pub there : (c : ℕ) → on D old c ≡ true → on D new c ≡ true
  pub back : (c : ℕ) → on D new c ≡ true → on D old c ≡ true

-- no node is on it
abbrev pub NoneOn : Chains → AgendaView → Type 0
NoneOn D a = (c : ℕ) → on D a c ≡ true → ⊥

-- by the stamps the second comes later than the first
abbrev pub is_later : Mode → Option Chain → Option Chain → Bool
is_later mode None y = false
is_later mode (Some x) None = false
is_later mode (Some x) (Some y) = is_lt (stamp_cmp mode x y)

-- how two nodes compare by their stamps, where one that may not be on it comes first
abbrev pub both_cmp : Mode → Option Chain → Option Chain → Ordering
both_cmp mode None None = Equal
both_cmp mode None (Some y) = Less
both_cmp mode (Some x) None = Greater
both_cmp mode (Some x) (Some y) = stamp_cmp mode x y

-- the node comes later than another
abbrev pub ComesAfter : Chains → Mode → ℕ → ℕ → Type 0
ComesAfter D mode of c = is_later mode (D of) (D c) ≡ true

-- each of these nodes that may be on it is
abbrev pub HasAll : Chains → (ℕ → Type 0) → AgendaView → Type 0
HasAll D These a = (c : ℕ) → These c → IsSome (D c) → on D a c ≡ true
