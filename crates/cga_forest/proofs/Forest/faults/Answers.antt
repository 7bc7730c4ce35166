use Rattle.std.proofs.Common.{◌∙◌, ap}
use Rattle.cga_forest.specs.Count.{is_faulted, is_shown_as, tally}
use Rattle.cga_forest.specs.Tree.{ForestView}
use Rattle.cga_forest.proofs.KindCounts.{second_are}
use Rattle.cga_forest.proofs.Forest.faults.Goals as goal

pub returns : goal.returns
returns c = c.second.ensures ∙ second_are c.self.inside.store.slots ∙ ap (λ (v : ForestView). tally (is_shown_as is_faulted) v.slots) c.self.view_is
