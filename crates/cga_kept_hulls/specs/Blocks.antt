-- Hulls over runs of roots: a block is sixteen places of their list in a row, and a group sixteen blocks.
use Rattle.std.specs.Prelude.{◌≡◌, ◌≢◌, ℕ, ◌*◌, ◌/◌, List, [], ◌∷◌, ◌++◌, Option, Some, None, Bool, true, false, get_or, slice_get, length}
use Rattle.cga_frame.specs.Box.{Box, touches}
use Rattle.cga_kept_hulls.specs.declared.blocks.Blocks.{Blocks}
use Rattle.cga_kept_hulls.specs.declared.hulls.Hulls.{Hulls}
use Rattle.cga_kept_hulls.specs.Hull.{holds_hulls}

-- for each sixteen places in a row hulls that hold those at the places, where there are some
abbrev pub Level : Type 0
Level = List (Option Hulls)

-- an entry of a level holds these hulls; one that isn't there may have any
abbrev pub block_holds : Option (Option Hulls) → Hulls → Bool
block_holds None h = true
block_holds (Some None) h = false
block_holds (Some (Some k)) h = holds_hulls k h

-- the hulls of an entry, if it is there and holds some
abbrev pub known_hulls : Option (Option Hulls) → Option Hulls
known_hulls None = None
known_hulls (Some known) = known

abbrev pub known_touches : Option Hulls → Box → Bool
known_touches None area = false
known_touches (Some k) area = touches k.all area

abbrev pub opt_touches : Option Box → Box → Bool
opt_touches None area = false
opt_touches (Some b) area = touches b area

abbrev pub known_asks : Option Hulls → Box → Bool
known_asks None area = false
known_asks (Some k) area = opt_touches k.asking area

-- whether the hulls of an entry touch the area, and whether those of who asks do
abbrev pub block_touches : Option (Option Hulls) → Box → Bool
block_touches None area = true
block_touches (Some known) area = known_touches known area

abbrev pub block_asks : Option (Option Hulls) → Box → Bool
block_asks None area = true
block_asks (Some known) area = known_asks known area

-- the entry of the place holds these hulls
abbrev pub IsIn : Level → ℕ → Hulls → Type 0
IsIn level place h = block_holds (slice_get level (place / 16)) h ≡ true

-- all that a level held it holds
abbrev pub StaysIn : Level → Level → Type 0
StaysIn old new = (place : ℕ) (h : Hulls) → IsIn old place h → IsIn new place h

-- the block of the place holds these hulls, and so does its group
abbrev pub IsHeld : Blocks → ℕ → Hulls → Type 0
IsHeld blocks place h = IsIn blocks.blocks.hulls.items place h × IsIn blocks.groups.hulls.items (place / 16) h

-- all that was held is
abbrev pub StaysHeld : Blocks → Blocks → Type 0
StaysHeld old new = (place : ℕ) (h : Hulls) → IsHeld old place h → IsHeld new place h

-- whether the block took hulls in since the blocks were last at rest
abbrev pub is_loose : Blocks → ℕ → Bool
is_loose blocks block = get_or blocks.loose.items block false

-- an entry holds what another knows
abbrev pub HoldsKnown : Option (Option Hulls) → Option (Option Hulls) → Type 0
HoldsKnown outer inner = (h : Hulls) → known_hulls inner ≡ Some h → block_holds outer h ≡ true

-- what holds all that the first two entries know holds what the third knows
abbrev pub IsLeast : Option (Option Hulls) → Option (Option Hulls) → Option (Option Hulls) → Type 0
IsLeast old more new = (outer : Option (Option Hulls)) → HoldsKnown outer old → HoldsKnown outer more → HoldsKnown outer new

-- an entry knows no hulls, and the others are as they were
pub record IsEmptied (old new : Level) (entry : ℕ) : Type 0 where
  pub empty : known_hulls (slice_get new entry) ≡ None
  pub others : (other : ℕ) → other ≢ entry → slice_get new other ≡ slice_get old other
  pub count : length new ≡ length old

-- the entry of a group is the least that holds what its blocks know
pub record IsGathered (blocks : Level) (group : ℕ) (made : Option (Option Hulls)) : Type 0 where
  pub holds : (block : ℕ) → block / 16 ≡ group → HoldsKnown made (slice_get blocks block)
  pub least : (outer : Option (Option Hulls))
      → ((block : ℕ) → block / 16 ≡ group → HoldsKnown outer (slice_get blocks block)) → HoldsKnown outer made

-- one entry more, with these hulls, where so many places fill those that are there
pub record HasRoom (old new : Level) (places : ℕ) (hulls : Hulls) : Type 0 where
  pub full : places ≡ 16 * length old → new ≡ old ++ (Some hulls ∷ [])
  pub enough : places ≢ 16 * length old → new ≡ old
