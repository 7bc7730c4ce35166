-- How the lists of a change are gathered: by the numbers of the slots, in the order of the walk.
use Rattle.std.specs.Prelude.{ℕ, zero, suc, List, [], ◌∷◌, ◌++◌, Option, Some, None, Bool, true, not, nat_eq, slice_get, if◌then◌else◌}
use Rattle.std.specs.List.{flat_map}
use Rattle.cga_forest.specs.declared.slot_entry.SlotEntry.{SlotEntry}
use Rattle.cga_forest.specs.declared.node_change.NodeChange.{NodeChange}
use Rattle.cga_forest.specs.declared.node.Node.{Node}
use Rattle.cga_forest.specs.NodeChange.{moved_node}

abbrev pub found_at : ℕ → Option SlotEntry → List NodeChange
found_at c None = []
found_at c (Some e) = moved_node c e.node ∷ []

-- the nodes of the slots of these numbers
abbrev pub found : (ℕ → Option SlotEntry) → List ℕ → List NodeChange
found s ids = flat_map (λ c. found_at c (s c)) ids

-- the node and, at most n levels in all, those below it
unfoldable pub below : (ℕ → List ℕ) → ℕ → ℕ → List ℕ
below K zero id = []
below K (suc n) id = id ∷ flat_map (below K n) (K id)

-- those that go with the old child at a place, unless that stays
abbrev pub going_at : (ℕ → List ℕ) → ℕ → (ℕ → Option Node → Bool) → Option ℕ → Option Node → List ℕ
going_at K n P None new = []
going_at K n P (Some k) new = if P k new then [] else below K n k

-- those that go with the first so many old children
unfoldable pub going : (ℕ → List ℕ) → ℕ → (ℕ → Option Node → Bool) → List ℕ → List Node → ℕ → List ℕ
going K n P olds news zero = []
going K n P olds news (suc i) = going K n P olds news i ++ going_at K n P (slice_get olds i) (slice_get news i)

-- whether a child is no old one at its place
abbrev pub is_come : Option ℕ → ℕ → Bool
is_come None c = true
is_come (Some k) c = not (nat_eq k c)

abbrev pub coming_at : Option ℕ → Option ℕ → List ℕ
coming_at old None = []
coming_at old (Some c) = if is_come old c then c ∷ [] else []

-- the children at the first so many places that are no old ones there
unfoldable pub coming : List ℕ → List ℕ → ℕ → List ℕ
coming olds children zero = []
coming olds children (suc i) = coming olds children i ++ coming_at (slice_get olds i) (slice_get children i)
