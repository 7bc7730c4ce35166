use Rattle.std.proofs.Common.{◌∙◌, ap}
use Rattle.cga_forest.specs.Tree.{ForestView}
use Rattle.cga_forest.proofs.Marks.{IsForest-begun}
use Rattle.cga_forest.proofs.Forest.begin.Goals as goal

pub invariant_of-self : goal.invariant_of-self
invariant_of-self c = record {
  forest = (IsForest-begun (record { slots = c.self.inside.store.slots; marking = c.self.inside.marking; roots = c.self.inside.roots.list; marked_roots = c.self.inside.roots.former; mode = c.self.inside.mode }) (ap (λ (v : ForestView). v.marking) c.self.view_is ∙ c.requires.unmarked) c.self.invariant.forest);
  covered = c.self.invariant.covered;
}
