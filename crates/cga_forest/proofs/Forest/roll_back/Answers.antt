use Rattle.std.proofs.Common.{refl, sym, ◌∙◌, ap}
use Rattle.cga_forest.specs.Tree.{ForestView}
use Rattle.cga_forest.proofs.Marks.{IsForest-rolled}
use Rattle.cga_forest.proofs.Forest.roll_back.Goals as goal

pub invariant_of-self : goal.invariant_of-self
invariant_of-self c = record {
  forest = IsForest-rolled (record { slots = c.self.inside.store.slots; marking = c.self.inside.marking; roots = c.self.inside.roots.list; marked_roots = c.self.inside.roots.former; mode = c.self.inside.mode }) _ (λ k. c.roll_back.ensures k) refl (c.self.invariant.forest.marked (ap (λ (v : ForestView). v.marking) c.self.view_is ∙ c.requires.marked)) (rw c.roll_back-2.ensures.list (c.self.invariant.forest.marked_tops (ap (λ (v : ForestView). v.marking) c.self.view_is ∙ c.requires.marked))) (c.roll_back-2.ensures.former ∙ sym c.roll_back-2.ensures.list);
  covered = c.cover_all.ensures;
}
