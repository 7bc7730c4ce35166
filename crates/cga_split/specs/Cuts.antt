-- What it means that cuts cover an axis.
use Rattle.std.specs.Prelude.{◌≡◌, ℕ, List, [], ◌∷◌, slice_get, map, Some, ◌↔◌, IsTrue}
use Rattle.cga_fraction.specs.Rat.{Rat, zero_rat}
use Rattle.cga_fraction.specs.Order.{rat_le, rat_lt}
use Rattle.cga_fraction.specs.Arithmetic.{minus}

-- each cut with the next one
abbrev pub neighbours : List Rat → List (Rat × Rat)
neighbours [] = []
neighbours (a ∷ []) = []
neighbours (a ∷ b ∷ cuts) = (a, b) ∷ neighbours (b ∷ cuts)

-- x lies between two neighbouring cuts, both included
abbrev pub Between : Rat → (Rat × Rat) → Type 0
Between x p = IsTrue (rat_le p.0 x) × IsTrue (rat_le x p.1)

abbrev pub StrictlyBetween : Rat → (Rat × Rat) → Type 0
StrictlyBetween x p = IsTrue (rat_lt p.0 x) × IsTrue (rat_lt x p.1)

-- a rational lies on the axis exactly where it lies between some neighbouring cuts, and strictly between no two of them
pub record Cover (cuts : List Rat) (size : Rat) : Type 0 where
  pub everywhere : (x : Rat)
      → (IsTrue (rat_le zero_rat x) × IsTrue (rat_le x size)) ↔
      ((i : ℕ) × (p : Rat × Rat) × (slice_get (neighbours cuts) i ≡ Some p) × Between x p)
  pub apart : (x : Rat) (i j : ℕ) (p q : Rat × Rat) → slice_get (neighbours cuts) i ≡ Some p
      → slice_get (neighbours cuts) j ≡ Some q → StrictlyBetween x p → StrictlyBetween x q → i ≡ j

-- a part for each pair of neighbouring cuts, from the lower one, with their difference as its length
abbrev pub parts_of : {P : Type 0} → (Rat → Rat → P) → List Rat → List P
parts_of place cuts = map (λ c. place c.0 (minus c.1 c.0)) (neighbours cuts)

-- the parts are those of the cuts, and the cuts cover the size
pub record IsCut {P : Type 0} (place : Rat → Rat → P) (cuts : List Rat) (size : Rat) (given : List P) : Type 0 where
  pub parts : given ≡ parts_of place cuts
  pub cover : Cover cuts size
