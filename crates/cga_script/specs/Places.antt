-- Where the lots of names stand in a list.
use Rattle.std.specs.Prelude.{◌≡◌, ℕ, ◌+◌, List, [], ◌∷◌, Option, Some, None, if◌then◌else◌}
use Rattle.std.specs.BTreeMap.{BTreeMap, get}
use Rattle.std.specs.Cmp.Lexicographic.{slice_cmp}
use Rattle.std.specs.Ordering.{nat_cmp}
use Rattle.cga_syntax.specs.Lexemes.{is}
use Rattle.cga_shape.specs.declared.lot.Lot.{Lot}

-- one further
abbrev pub further_by : ℕ → Option ℕ → Option ℕ
further_by n None = None
further_by n (Some place) = Some (n + place)

-- where the lot of a name stands
unfoldable pub lot_index : List ℕ → List Lot → Option ℕ
lot_index name [] = None
lot_index name (l ∷ ls) = if is l.name name then Some 0 else further_by 1 (lot_index name ls)

-- under each name is the place of its lot
abbrev pub ArePlaces : BTreeMap (List ℕ) ℕ → List Lot → Type 0
ArePlaces places lots = (name : List ℕ) → get (slice_cmp nat_cmp) places name ≡ lot_index name lots
