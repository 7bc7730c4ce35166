use Rattle.std.proofs.Common.{[], ◌∷◌, sym, ap, ◌∙◌}
use Rattle.cga_index.specs.Occlusion.{answer_of}
use Rattle.cga_forest.specs.Walked.{own_of}
use Rattle.cga_forest.proofs.Laws.{slot_inside, node_inside}
use Rattle.cga_forest.proofs.hull_tree.ForestHullTree.compares.Goals as goal

pub entry-requires : goal.entry-requires
entry-requires g c = record { here = slot_inside (record { slots = c.self.inside.store.slots; marking = c.self.inside.marking; roots = c.self.inside.roots.list; marked_roots = c.self.inside.roots.former; mode = c.self.inside.mode }) c.args.self.now c.self.view_is c.self.invariant.forest c.args.node c.number.result c.number.ensures c.requires.node }

pub returns-clause-value : goal.returns-clause-value
returns-clause-value g c = c.compares.ensures ∙ ap (λ own. answer_of c.args.area.now (own ∷ [])) (sym (ap own_of (node_inside (record { slots = c.self.inside.store.slots; marking = c.self.inside.marking; roots = c.self.inside.roots.list; marked_roots = c.self.inside.roots.former; mode = c.self.inside.mode }) c.args.self.now c.self.view_is c.self.invariant.forest c.args.node c.number.result c.number.ensures c.requires.node c.entry.result.now c.entry.ensures)))
