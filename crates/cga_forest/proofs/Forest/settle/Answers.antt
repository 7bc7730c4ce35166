use Rattle.std.proofs.Common.{refl, sym, ap, ◌∙◌}
use Rattle.cga_forest.specs.Tree.{hulls_at}
use Rattle.cga_forest.specs.View.{hulls_of, slot}
use Rattle.cga_forest.proofs.Covered.{covered_part}
use Rattle.cga_forest.proofs.Heads.{settled_hulls}
use Rattle.cga_forest.proofs.Marks.{IsForest-settled}
use Rattle.cga_forest.proofs.Forest.settle.Goals as goal

pub invariant_of-self : goal.invariant_of-self
invariant_of-self c = record {
  forest = IsForest-settled (record { slots = c.self.inside.store.slots; marking = c.self.inside.marking; roots = c.self.inside.roots.list; marked_roots = c.self.inside.roots.former; mode = c.self.inside.mode }) _ (λ k. c.settle.ensures k) refl c.self.invariant.forest.present (rw c.settle-2.ensures.list c.self.invariant.forest.tops) (c.settle-2.ensures.former ∙ sym c.settle-2.ensures.list);
  covered = c.tighten.ensures;
}

pub tighten-requires : goal.tighten-requires
tighten-requires c = covered_part c.self.inside.blocks c.self.inside.roots.list _ (hulls_at (record { slots = c.self.inside.store.slots; marking = c.self.inside.marking; roots = c.self.inside.roots.list; marked_roots = c.self.inside.roots.former; mode = c.self.inside.mode })) _ c.settle-2.ensures.list (λ k h e. settled_hulls (slot c.self.inside.store.slots k) h (sym (ap hulls_of (c.settle.ensures k)) ∙ e)) c.self.invariant.covered
