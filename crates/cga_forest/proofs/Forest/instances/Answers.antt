use Rattle.std.proofs.Common.{◌∙◌, ap}
use Rattle.cga_order.specs.World.{is_instance}
use Rattle.cga_forest.specs.Count.{is_shown_as, tally}
use Rattle.cga_forest.specs.Tree.{ForestView}
use Rattle.cga_forest.proofs.KindCounts.{first_are}
use Rattle.cga_forest.proofs.Forest.instances.Goals as goal

pub returns : goal.returns
returns c = c.first.ensures ∙ first_are c.self.inside.store.slots ∙ ap (λ (v : ForestView). tally (is_shown_as is_instance) v.slots) c.self.view_is
