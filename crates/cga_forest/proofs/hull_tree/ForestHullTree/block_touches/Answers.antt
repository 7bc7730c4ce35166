use Rattle.std.proofs.Common.{◌∙◌, ◌*◌, sym, subst}
use Rattle.cga_index.specs.Tree.{IsFarRun}
use Rattle.cga_forest.specs.Tree.{ForestView}
use Rattle.cga_forest.specs.Walked.{forest_tree}
use Rattle.cga_forest.proofs.Covered.{far_block}
use Rattle.cga_forest.proofs.hull_tree.ForestHullTree.block_touches.Goals as goal

pub returns : goal.returns
returns c off = subst (λ (v : ForestView). IsFarRun (forest_tree v) (16 * c.args.block) 16 c.args.area.now) c.self.view_is (far_block (record { slots = c.self.inside.store.slots; marking = c.self.inside.marking; roots = c.self.inside.roots.list; marked_roots = c.self.inside.roots.former; mode = c.self.inside.mode }) c.self.inside.blocks c.self.invariant c.args.area.now c.args.block (sym c.touches.ensures ∙ off))
