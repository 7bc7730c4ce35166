-- What is proved of a forest.
use Rattle.std.specs.Prelude.{◌↔◌, ℕ, IsSome}
use Rattle.cga_index.specs.Tree.{InTree, IsHullTree}
use Rattle.cga_forest.specs.Tree.{ForestView, IsForest, node_at}
use Rattle.cga_forest.specs.Walked.{forest_tree, lasting_tree}

-- what holds of each forest gives the laws of a tree of boxes
abbrev pub ForestsAreHullTrees : Type 0
ForestsAreHullTrees = (v : ForestView) → IsForest v → IsHullTree (forest_tree v)

-- the nodes of that tree are those that are there
abbrev pub TreesHaveNodes : Type 0
TreesHaveNodes = (v : ForestView) → IsForest v → (n : ℕ) → InTree (forest_tree v) n ↔ IsSome (node_at v n)

-- both where only those nodes ask that were there at the mark
abbrev pub LastingAreHullTrees : Type 0
LastingAreHullTrees = (v : ForestView) → IsForest v → IsHullTree (lasting_tree v)

abbrev pub LastingHaveNodes : Type 0
LastingHaveNodes = (v : ForestView) → IsForest v → (n : ℕ) → InTree (lasting_tree v) n ↔ IsSome (node_at v n)
