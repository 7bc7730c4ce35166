-- That the dependents list what stands in a forest.
use Rattle.std.specs.Prelude.{◌≡◌, ℕ, List, Option}
use Rattle.cga_depend.specs.Log.{lists}
use Rattle.cga_depend.specs.Pairs.{DependentsView}
use Rattle.cga_forest.specs.View.{Seen}
use Rattle.cga_update.specs.Log.{is_of}

-- the dependents list just the nodes of each symbol
abbrev pub ListsView : DependentsView → (ℕ → Option Seen) → Type 0
ListsView d T = (s : List ℕ) (c : ℕ) → lists d s c ≡ is_of (T c) s
