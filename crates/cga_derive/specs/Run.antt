-- What a run keeps from turn to turn.
use Rattle.std.specs.Prelude.{◌≡◌, ℕ, List, ◌++◌, length, map, Option, Some, None}
use Rattle.std.specs.BTreeMap.{insert_entry}
use Rattle.cga_derivation.specs.Sites.{Site, sited}
use Rattle.cga_derivation.specs.Turns.{HasWaiting, IsAt, IsInTurn}
use Rattle.cga_derivation.specs.Sites.{SitesApart}
use Rattle.cga_order.specs.declared.placed.Placed.{Placed}
use Rattle.cga_word.specs.declared.primitive.Primitive.{Primitive}
use Rattle.cga_shape.specs.declared.sources.Sources.{Sources}
use Rattle.cga_shape.specs.declared.shape.Shape.{Shape}
use Rattle.cga_shape.specs.declared.shape_fault.ShapeFault.{ShapeFault}
use Rattle.cga_order.specs.declared.stamp_key.StampKey.{StampKey}
use Rattle.cga_shape.specs.declared.emitted.Emitted.{Emitted}
use Rattle.cga_shape.specs.declared.emitted.Emitted.TheVariants.{Child, Solid}
use Rattle.cga_expand.specs.Children.{Member, placed_from}
use Rattle.cga_expand.specs.Derivation.{derivation_of}
use Rattle.cga_order.specs.Key.{chain_of_key, key_cmp}
use Rattle.cga_order.specs.ChildKeys.{IsChildKey}

abbrev pub Sites : Type 0
Sites = List (Placed (Site Shape) ShapeFault Primitive)

-- the entries are the stamps of the waiting members, with their places
abbrev pub HasKeys : Sources → Sites → List (StampKey × ℕ) → Type 0
HasKeys sources list entries = HasWaiting (derivation_of sources) (λ k. k.mode) chain_of_key list entries

-- after n turns
abbrev pub IsAfter : Sources → ℕ → List Member → List (StampKey × ℕ) → Type 0
IsAfter sources n list entries = IsAt (derivation_of sources) (λ k. k.mode) chain_of_key n list entries

-- in the turn after n turns, with the least key taken
abbrev pub IsInTurnOf : Sources → ℕ → StampKey → ℕ → List Member → List (StampKey × ℕ) → Type 0
IsInTurnOf sources n key at list entries =
    IsInTurn (derivation_of sources) (λ k. k.mode) chain_of_key key_cmp n key at list entries

-- the key of such a child comes to the entries, with the child's place in the list
abbrev pub AddsKey : StampKey → ℕ → ℕ → ℕ → List (StampKey × ℕ) → List (StampKey × ℕ) → Type 0
AddsKey parent i priority at old new =
    (key : StampKey) × IsChildKey parent i priority key × (new ≡ insert_entry key_cmp old key at)

-- the symbol of a child that waits
abbrev pub waiting_symbol : Emitted → Option (List ℕ)
waiting_symbol (Child symbol args scope seed) = Some symbol
waiting_symbol (Solid primitive scope seed) = None

-- emitted children of the shape of a key, with the priorities of their ancestors
abbrev pub sited_children : StampKey → List ℕ → ℕ → List Emitted → Sites
sited_children key own i emitted =
    map (sited key.priorities) (placed_from key.lot key.path own i emitted)

-- the keys go along when these members come behind the list
abbrev pub KeepsKeys : Sources → StampKey → Sites → List Member → List (StampKey × ℕ) → List (StampKey × ℕ) → Type 0
KeepsKeys sources parent created old_list old new =
    (C : Sites) → parent.mode ≡ sources.mode → length C ≡ length old_list
    → SitesApart (derivation_of sources) (C ++ created) → HasKeys sources C old → HasKeys sources (C ++ created) new
