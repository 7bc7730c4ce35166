use Rattle.cga_forest.proofs.Laws.{laws_inside, in_inside}
use Rattle.cga_forest.proofs.Forest.ask.Goals as goal

pub answer-requires-clause-laws : goal.answer-requires-clause-laws
answer-requires-clause-laws g c = laws_inside (record { slots = c.self.inside.store.slots; marking = c.self.inside.marking; roots = c.self.inside.roots.list; marked_roots = c.self.inside.roots.former; mode = c.self.inside.mode }) c.args.self.now c.self.view_is c.self.invariant.forest

pub answer-requires-clause-node : goal.answer-requires-clause-node
answer-requires-clause-node g c = in_inside (record { slots = c.self.inside.store.slots; marking = c.self.inside.marking; roots = c.self.inside.roots.list; marked_roots = c.self.inside.roots.former; mode = c.self.inside.mode }) c.args.self.now c.self.view_is c.self.invariant.forest c.args.node c.requires.here
