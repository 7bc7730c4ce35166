-- What a forest answers a node for one target.
use Rattle.std.specs.Prelude.{ℕ, Bool, Option, Some, None, if◌then◌else◌}
use Rattle.cga_word.specs.declared.answer.Answer.{Answer}
use Rattle.cga_word.specs.declared.target.Target.{Target}
use Rattle.cga_index.specs.Occlusion.{answer_of}
use Rattle.cga_index.specs.Tree.{asked, all_nodes}
use Rattle.cga_forest.specs.Tree.{ForestView}
use Rattle.cga_forest.specs.Walked.{forest_tree}

-- none where its symbol's group doesn't mention the target
abbrev pub answered : ForestView → ℕ → Target → Bool → Option Answer
answered v by target mentioned =
    if mentioned then Some (answer_of ((forest_tree v).own by) (asked (forest_tree v) by target (all_nodes (forest_tree v)))) else None
