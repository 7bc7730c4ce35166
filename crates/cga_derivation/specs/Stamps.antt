-- Stamps that are told from a list: the priorities on a shape's path are those of the members there.
use Rattle.std.specs.Prelude.{◌≡◌, ℕ, zero, suc, List, [], ◌∷◌, ◌++◌, Bool, ◌&&◌, ◌⊎◌, Option, Some, None, nat_eq, length, slice_get, take, ◌<◌, ◌≤◌}
use Rattle.std.specs.declared.cmp.Ordering.TheVariants.{Less}
use lib.Pointwise.{pointwise}
use Rattle.cga_order.specs.Rank.{Rank}
use Rattle.cga_order.specs.Chain.{Chain}
use Rattle.cga_order.specs.Stamp.{stamp, birth, stamps_cmp}
use Rattle.cga_order.specs.declared.placed.Placed.{Placed}
use Rattle.cga_derivation.specs.Derivation.{Derivation, first_of}

module _ {N A F P : Type 0} (derivation : Derivation N A F P) where
  -- the member has this lot and this path
  abbrev pub stands_at : List ℕ → List ℕ → Placed N F P → Bool
  stands_at lot path m =
      pointwise nat_eq (derivation.lot m.shape) lot && pointwise nat_eq (derivation.path m.shape) path

  abbrev pub priority_found : Option (Placed N F P) → ℕ
  priority_found None = 0
  priority_found (Some m) = derivation.priority m.shape

  -- the priority of the member of this lot and path
  abbrev pub priority_at : List (Placed N F P) → List ℕ → List ℕ → ℕ
  priority_at list lot path = priority_found (first_of (stands_at lot path) list)

  -- the priorities of so many shapes on a path, from the root down
  abbrev pub priorities_down : List (Placed N F P) → List ℕ → List ℕ → ℕ → List ℕ
  priorities_down list lot path zero = []
  priorities_down list lot path (suc depth) =
      priorities_down list lot path depth ++ priority_at list lot (take depth path) ∷ []

  -- a shape's chain, told from the list
  abbrev pub chain_in : List (Placed N F P) → N → Chain
  chain_in list n = record {
    lot = derivation.lot n;
    path = derivation.path n;
    priorities = priorities_down list (derivation.lot n) (derivation.path n) (suc (length (derivation.path n)));
  }

  -- a shape's stamp
  abbrev pub stamp_in : List (Placed N F P) → N → List Rank
  stamp_in list n = stamp derivation.mode (chain_in list n)

  -- the stamp of its parent; a root's is empty
  abbrev pub birth_in : List (Placed N F P) → N → List Rank
  birth_in list n = birth derivation.mode (chain_in list n)

  abbrev pub IsEarlier : List Rank → List Rank → Type 0
  IsEarlier a b = stamps_cmp derivation.mode a b ≡ Less

  -- two children of one shape, the first of a smaller index
  abbrev pub AreSiblings : N → N → Type 0
  AreSiblings n m =
      (parent : List ℕ) × (i : ℕ) × (j : ℕ) × (derivation.lot n ≡ derivation.lot m)
      × (derivation.path n ≡ parent ++ i ∷ []) × (derivation.path m ≡ parent ++ j ∷ []) × (i < j)

  -- the members after the roots stand by their parents' stamps, and then by their indices
  abbrev pub StandsInOrder : List (Placed N F P) → Type 0
  StandsInOrder list =
      (i j : ℕ) (m n : Placed N F P) → slice_get list i ≡ Some m → slice_get list j ≡ Some n
      → i < j → length derivation.roots ≤ j
      → IsEarlier (birth_in list m.shape) (birth_in list n.shape) ⊎ AreSiblings m.shape n.shape

  -- each of the stamps is smaller than that of s
  abbrev pub AllEarlier : List (Placed N F P) → N → List N → Type 0
  AllEarlier list s [] = Unit {0}
  AllEarlier list s (t ∷ taken) =
      IsEarlier (stamp_in list t) (stamp_in list s) × AllEarlier list s taken

  -- of shapes that were taken, the last first: by strictly rising stamps
  abbrev pub RisesIn : List (Placed N F P) → List N → Type 0
  RisesIn list [] = Unit {0}
  RisesIn list (s ∷ taken) = AllEarlier list s taken × RisesIn list taken
