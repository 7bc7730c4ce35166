-- What a log of nodes that came and went makes of the nodes of each symbol.
use Rattle.std.specs.Prelude.{◌≡◌, ℕ, List, [], ◌∷◌, Bool, false, not, ◌&&◌, Option, Some, None}
use Rattle.cga_check.specs.Uses.{same_name}
use Rattle.cga_depend.specs.Log.{noted_all}
use Rattle.cga_order.specs.World.{is_instance}
use Rattle.cga_word.specs.declared.primitive.Primitive.{Primitive}
use Rattle.cga_shape.specs.declared.drawn.Drawn.{Drawn}
use Rattle.cga_forest.specs.declared.node_change.NodeChange.{NodeChange}
use Rattle.cga_forest.specs.View.{Seen}
use Rattle.cga_depend.specs.declared.log.Pairing.{Pairing}
use Rattle.cga_depend.specs.declared.log.Pairing.TheVariants.{Created, Removed}

-- ---- what the log says

-- the node is there, isn't an instance, and has this symbol
abbrev pub is_of : Option Seen → List ℕ → Bool
is_of None s = false
is_of (Some d) s = not (is_instance d.node.kind) && same_name d.node.shape.symbol s

-- the log makes of the nodes of V those of T
abbrev pub IsLogged : (ℕ → Option Seen) → (ℕ → Option Seen) → List Pairing → Type 0
IsLogged V T log = (s : List ℕ) (c : ℕ) → is_of (T c) s ≡ noted_all log s c (is_of (V c) s)

-- ---- what is noted of nodes that went or came

abbrev pub drawn_as : NodeChange → Primitive → Drawn
drawn_as m p = record { lot = m.lot; symbol = m.symbol; primitive = p; scope = m.scope }

abbrev pub drawn_before : NodeChange → Option Primitive → List Drawn → List Drawn
drawn_before m None rest = rest
drawn_before m (Some p) rest = drawn_as m p ∷ rest

-- the instances among them
unfoldable pub drawn_of : List NodeChange → List Drawn
drawn_of [] = []
drawn_of (m ∷ ms) = drawn_before m m.primitive (drawn_of ms)

abbrev pub paired_before : Pairing → Option Primitive → List Pairing → List Pairing
paired_before x None rest = x ∷ rest
paired_before x (Some p) rest = rest

-- the others, as they went, and as they came
unfoldable pub removed_of : List NodeChange → List Pairing
removed_of [] = []
removed_of (m ∷ ms) = paired_before (Removed m.symbol m.id) m.primitive (removed_of ms)

unfoldable pub created_of : List NodeChange → List Pairing
created_of [] = []
created_of (m ∷ ms) = paired_before (Created m.symbol m.id) m.primitive (created_of ms)

-- a node that stays in both views is one of the same symbol
abbrev pub StayAlike : (ℕ → Option Seen) → (ℕ → Option Seen) → Type 0
StayAlike S T =
    (c : ℕ) (d e : Seen) (s : List ℕ) → S c ≡ Some d → T c ≡ Some e → is_of (Some e) s ≡ is_of (Some d) s
