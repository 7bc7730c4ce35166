-- The nodes of each symbol.
use Rattle.std.specs.Prelude.{◌≡◌, ℕ, List, Some, slice_get, [], ◌∷◌, ◌++◌, nat_eq, unwrap_or, if◌then◌else◌}
use Rattle.std.specs.List.{list_any}
use Rattle.std.specs.Map.{lookup}
use Rattle.cga_check.specs.Uses.{same_name}

-- for each symbol its nodes
pub record DependentsView : Type 0 where
  pub nodes : List (List ℕ × List ℕ)

-- what stands under a name
abbrev pub under : {X : Type 0} → List (List ℕ × List X) → List ℕ → List X
under entries name = unwrap_or (lookup (same_name name) entries) []

abbrev pub nodes_in : DependentsView → List ℕ → List ℕ
nodes_in v symbol = under v.nodes symbol

-- a symbol stands at a place, and is found there
pub record IsAt (entries : List (List ℕ × List ℕ)) (place : ℕ) (symbol : List ℕ) : Type 0 where
  pub nodes : List ℕ
  pub at : slice_get entries place ≡ Some (symbol, nodes)
  pub found : lookup (same_name symbol) entries ≡ Some nodes

-- the nodes with one more, where it isn't there
abbrev pub with_node : List ℕ → ℕ → List ℕ
with_node nodes node = if list_any (nat_eq node) nodes then nodes else nodes ++ node ∷ []
