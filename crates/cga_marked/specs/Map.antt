-- A map of names to numbers with a mark: what is there, what was there at the mark, and the steps between.
use Rattle.std.specs.Prelude.{◌≡◌, ◌≢◌, ℕ, ◌<◌, ◌≤◌, ◌+◌, ◌-◌, List, [], ◌∷◌, length, take, map, Option, Some, None, slice_get}
use Rattle.std.specs.Bool.{⊤}
use Rattle.std.specs.List.{swap, IsDistinct}
use Rattle.std.specs.Map.{lookup}
use Rattle.indexmap.specs.IndexMap.{set_value_at}
use lib.Pointwise.{pointwise}
use Rattle.std.specs.Prelude.{Bool, nat_eq}
use Rattle.cga_marked.specs.declared.step.Step.{Step}
use Rattle.cga_marked.specs.declared.step.Step.TheVariants.{Created, Removed}

abbrev pub same_name : List ℕ → List ℕ → Bool
same_name = pointwise nat_eq

-- names with their ids
abbrev pub Named : Type 0
Named = List (List ℕ × ℕ)

abbrev pub names : Named → List (List ℕ)
names entries = map (λ p. p.0) entries

abbrev pub ids : Named → List ℕ
ids entries = map (λ p. p.1) entries

abbrev pub AreApart : Named → Type 0
AreApart entries = IsDistinct same_name (names entries)

-- the id under a name
abbrev pub id_under : Named → List ℕ → Option ℕ
id_under entries name = lookup (same_name name) entries

-- each name stands where it stood, but for that one place
abbrev pub KeepsPlaces : ℕ → Named → Named → Type 0
KeepsPlaces place old new = (i : ℕ) (e : List ℕ × ℕ) → i ≢ place → slice_get new i ≡ Some e → slice_get old i ≡ Some e

-- ---- how they are kept: those that are there, and then those that went since the mark

pub record Shelf : Type 0 where
  pub entries : Named
  pub shown : ℕ

abbrev pub listed : Shelf → Named
listed s = take s.shown s.entries

-- a name's former id, or its entry dropped, which is the last one
abbrev pub put_back : Option ℕ → ℕ → Named → Named
put_back None place entries = take (length entries - 1) entries
put_back (Some id) place entries = set_value_at entries place id

-- a step taken back
abbrev pub undo : Step → Shelf → Shelf
undo (Created place former gap) s = record { entries = put_back former place (swap (swap s.entries gap (s.shown - 1)) (s.shown - 1) place); shown = s.shown - 1 }
undo (Removed place) s = record { entries = swap s.entries place s.shown; shown = s.shown + 1 }

-- all taken back, the last one first
unfoldable pub undone : List Step → Shelf → Shelf
undone [] s = s
undone (x ∷ xs) s = undo x (undone xs s)

-- the step can be taken back
abbrev pub IsUndoable : Step → Shelf → Type 0
IsUndoable (Created place former gap) s = (gap < s.shown) × (s.shown ≤ place + 1) × (place < length s.entries) × (former ≡ None → place + 1 ≡ length s.entries)
IsUndoable (Removed place) s = (place ≤ s.shown) × (s.shown < length s.entries)

-- one after the other
unfoldable pub AreUndoable : List Step → Shelf → Type 0
AreUndoable [] s = ⊤
AreUndoable (x ∷ xs) s = IsUndoable x (undone xs s) × AreUndoable xs s

pub record IsMap (s : Shelf) (steps : List Step) (cap : ℕ) : Type 0 where
  pub within : s.shown ≤ length s.entries
  pub ready : AreUndoable steps s
  -- each name that is there may go with no allocation
  pub room : s.shown + length steps ≤ cap

pub record MapView : Type 0 where
  pub list : Named
  pub former : Named
  pub spare : ℕ
  pub noted : ℕ
  pub cap : ℕ

-- one more name fits with no allocation
pub record HasSpace (v : MapView) : Type 0 where
  pub entry : 0 < v.spare
  pub step : length v.list + v.noted + 2 ≤ v.cap

-- ---- what a forest has of them
