-- Lists in runs: one run after the other.
use Rattle.std.specs.Prelude.{◌≡◌, ℕ, ◌+◌, ◌<◌, List, [], ◌++◌, ◌∷◌, length, take, Some, slice_get}

-- all items of the runs, in order
abbrev pub joined : {X : Type 0} → List (List X) → List X
joined [] = []
joined (run ∷ runs) = run ++ joined runs

-- the items of a run stand in a list from a place on
abbrev pub IsRunAt : {X : Type 0} → List X → ℕ → List X → Type 0
IsRunAt {X = X} all place run = (i : ℕ) (x : X) → slice_get run i ≡ Some x → slice_get all (place + i) ≡ Some x

-- a place of the joined list is the j-th of the k-th run
pub record IsSpot {X : Type 0} (runs : List (List X)) (place k j : ℕ) : Type 0 where
  pub run : List X
  pub there : slice_get runs k ≡ Some run
  pub within : j < length run
  pub behind : length (joined (take k runs)) + j ≡ place
