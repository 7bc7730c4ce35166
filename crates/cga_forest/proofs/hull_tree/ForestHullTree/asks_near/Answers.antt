use Rattle.cga_forest.proofs.Laws.{slot_inside}
use Rattle.cga_forest.proofs.hull_tree.ForestHullTree.asks_near.Goals as goal

pub entry-entry-requires : goal.entry-entry-requires
entry-entry-requires c = record { here = slot_inside (record { slots = c.self.inside.store.slots; marking = c.self.inside.marking; roots = c.self.inside.roots.list; marked_roots = c.self.inside.roots.former; mode = c.self.inside.mode }) c.args.self.now c.self.view_is c.self.invariant.forest c.args.node c.number.result c.number.ensures c.requires }
