-- What is proved of derivations.
use Rattle.std.specs.Prelude.{◌≡◌, ℕ, List, length, ◌<◌, ◌≤◌, Some, None, MatchOption, nat_lt, if◌then◌else◌}
use Rattle.cga_order.specs.declared.placed.Placed.{Placed}
use Rattle.cga_order.specs.World.{IsWorld}
use Rattle.cga_order.specs.Run.{Reached}
use Rattle.cga_order.specs.Consistent.{SameMembers}
use Rattle.cga_derivation.specs.Derivation.{Derivation, IsDerivation, reached, NothingWaits, IsDerived, derive, expanded}
use Rattle.cga_derivation.specs.Consistent.{IsConsistent}
use Rattle.cga_derivation.specs.Stamps.{RisesIn, StandsInOrder}
use Rattle.cga_derivation.specs.Sites.{erase, world_of, sites, taken}

module _ (N A F P : Type 0) where
  -- over sites each derivation is that of a world
  abbrev pub SitesAreWorlds : Type 0
  SitesAreWorlds = (derivation : Derivation N A F P) → IsDerivation derivation → IsWorld (world_of derivation)

  -- whose run, without the ancestors' priorities, is that of the derivation, step by step
  abbrev pub SitesRunAlong : Type 0
  SitesRunAlong =
      (derivation : Derivation N A F P) (n : ℕ)
      → Reached (world_of derivation) (taken derivation n) (sites derivation n)
      × (erase (sites derivation n) ≡ reached derivation n)

  -- for every n, the shapes that n steps took rise strictly by stamp
  abbrev pub StampsRise : Type 0
  StampsRise =
      (derivation : Derivation N A F P) → IsDerivation derivation
      → (n : ℕ) → RisesIn derivation (reached derivation n) (expanded derivation n)

  -- for every n, the members after the roots stand by their parents' stamps, and then by index
  abbrev pub MembersStandInOrder : Type 0
  MembersStandInOrder =
      (derivation : Derivation N A F P) → IsDerivation derivation
      → (n : ℕ) → StandsInOrder derivation (reached derivation n)

  -- none where some configuration has more members than the budget; otherwise the configuration in
  -- which nothing waits, which comes after at most as many steps
  abbrev pub DeriveSays : Type 0
  DeriveSays =
      (derivation : Derivation N A F P) → IsDerivation derivation → (budget : ℕ)
      → MatchOption (derive derivation budget)
      ((n : ℕ) × (budget < length (reached derivation n)))
      (λ list. ((m : ℕ) → length (reached derivation m) ≤ budget)
      × ((n : ℕ) × (n ≤ budget) × (list ≡ reached derivation n) × NothingWaits derivation list))

  -- there is at most one configuration in which nothing waits, and `derive` gives no other
  pub record DerivationIsOne : Type 0 where
    pub one : (derivation : Derivation N A F P) → IsDerivation derivation
        → (list other : List (Placed N F P)) → IsDerived derivation list → IsDerived derivation other
        → list ≡ other
    pub within : (derivation : Derivation N A F P) → IsDerivation derivation
        → (budget : ℕ) (list : List (Placed N F P)) → derive derivation budget ≡ Some list
        → IsDerived derivation list

  -- a consistent list has the members of the configuration in which nothing waits
  abbrev pub ConsistentIsDerived : Type 0
  ConsistentIsDerived =
      (derivation : Derivation N A F P) → IsDerivation derivation
      → (list : List (Placed N F P)) → IsConsistent derivation list
      → (n : ℕ) → NothingWaits derivation (reached derivation n)
      → SameMembers list (reached derivation n)

  -- and this is a consistent list
  abbrev pub DerivedIsConsistent : Type 0
  DerivedIsConsistent =
      (derivation : Derivation N A F P) → IsDerivation derivation
      → (n : ℕ) → NothingWaits derivation (reached derivation n)
      → IsConsistent derivation (reached derivation n)

  -- within a budget that a consistent list keeps, the derivation ends, with the same members and as many
  abbrev pub ConsistentIsWithin : Type 0
  ConsistentIsWithin =
      (derivation : Derivation N A F P) → IsDerivation derivation
      → (list : List (Placed N F P)) → IsConsistent derivation list
      → (budget : ℕ) → length list ≤ budget
      → (derived : List (Placed N F P)) × (derive derivation budget ≡ Some derived)
      × SameMembers list derived × (length list ≡ length derived)

  -- what a derivation ends with is its answer for exactly the budgets that are no less than its length
  abbrev pub BudgetIsLength : Type 0
  BudgetIsLength =
      (derivation : Derivation N A F P) → IsDerivation derivation
      → (list : List (Placed N F P)) → IsDerived derivation list → (budget : ℕ)
      → derive derivation budget ≡ (if nat_lt budget (length list) then None else Some list)
