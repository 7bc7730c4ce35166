use Rattle.std.proofs.Common.{◌∙◌, ◌*◌, sym, subst}
use Rattle.cga_index.specs.Tree.{IsQuietRun}
use Rattle.cga_forest.specs.Tree.{ForestView}
use Rattle.cga_forest.specs.Walked.{forest_tree}
use Rattle.cga_forest.proofs.Covered.{quiet_group}
use Rattle.cga_forest.proofs.hull_tree.ForestHullTree.group_asks.Goals as goal

pub returns : goal.returns
returns c off = subst (λ (v : ForestView). IsQuietRun (forest_tree v) (256 * c.args.group) 256 c.args.area.now) c.self.view_is (quiet_group (record { slots = c.self.inside.store.slots; marking = c.self.inside.marking; roots = c.self.inside.roots.list; marked_roots = c.self.inside.roots.former; mode = c.self.inside.mode }) c.self.inside.blocks c.self.invariant c.args.area.now c.args.group (sym c.asks.ensures ∙ off))
