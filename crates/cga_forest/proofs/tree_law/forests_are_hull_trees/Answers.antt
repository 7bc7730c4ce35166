use Rattle.std.proofs.Common.{ap}
use Rattle.std.specs.Prelude.{is_some}
use Rattle.cga_index.proofs.Door.{in_lasting, in_whole}
use Rattle.cga_forest.specs.Tree.{node_at}
use Rattle.cga_forest.specs.Walked.{forest_tree, was_marked}
use Rattle.cga_forest.proofs.Right.{is_there}
use Rattle.cga_forest.proofs.Laws.{keeps_laws, there, inside, lasting_laws}
use Rattle.cga_forest.proofs.tree_law.forests_are_hull_trees.Goals as goal

pub returns-clause-laws : goal.returns-clause-laws
returns-clause-laws c = keeps_laws

pub returns-clause-nodes : goal.returns-clause-nodes
returns-clause-nodes c = λ v f n. (λ m. ap is_some (there v f n m).1, λ h. inside v f n (is_there (node_at v n) h))

pub returns-clause-lasting : goal.returns-clause-lasting
returns-clause-lasting c = lasting_laws

pub returns-clause-lasting_nodes : goal.returns-clause-lasting_nodes
returns-clause-lasting_nodes c = λ v f n. (
  λ m. ap is_some (there v f n (in_whole (forest_tree v) (was_marked v) n m)).1,
  λ h. in_lasting (forest_tree v) (was_marked v) n (inside v f n (is_there (node_at v n) h)),
)
