use Rattle.std.proofs.Common.{ap, ◌∙◌, length, List, ℕ}
use Rattle.cga_forest.proofs.Laws.{kids_inside}
use Rattle.cga_forest.proofs.hull_tree.ForestHullTree.children.Goals as goal

pub returns : goal.returns
returns c = c.child_count.ensures ∙ ap (λ (xs : List ℕ). length xs) (kids_inside (record { slots = c.self.inside.store.slots; marking = c.self.inside.marking; roots = c.self.inside.roots.list; marked_roots = c.self.inside.roots.former; mode = c.self.inside.mode }) c.args.self.now c.self.view_is c.self.invariant.forest c.args.node c.number.result c.number.ensures c.requires)
