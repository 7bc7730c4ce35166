use Rattle.std.proofs.Common.{◌∙◌, ap, ℕ}
use Rattle.cga_forest.specs.Standing.{standing_of}
use Rattle.cga_forest.specs.Tree.{ForestView, node_at}
use Rattle.cga_forest.proofs.Apart.{stand_apart}
use Rattle.cga_forest.proofs.hull_tree.ForestHullTree.standing.Goals as goal

pub returns : goal.returns
returns c =
    c.standing_of.ensures
    ∙ ap (λ (k : ℕ). standing_of c.self.inside.mode (node_at (record { slots = c.self.inside.store.slots; marking = c.self.inside.marking; roots = c.self.inside.roots.list; marked_roots = c.self.inside.roots.former; mode = c.self.inside.mode })) k c.number-2.result (node_at (record { slots = c.self.inside.store.slots; marking = c.self.inside.marking; roots = c.self.inside.roots.list; marked_roots = c.self.inside.roots.former; mode = c.self.inside.mode }) k) (node_at (record { slots = c.self.inside.store.slots; marking = c.self.inside.marking; roots = c.self.inside.roots.list; marked_roots = c.self.inside.roots.former; mode = c.self.inside.mode }) c.number-2.result)) c.number.ensures
    ∙ ap (λ (k : ℕ). standing_of c.self.inside.mode (node_at (record { slots = c.self.inside.store.slots; marking = c.self.inside.marking; roots = c.self.inside.roots.list; marked_roots = c.self.inside.roots.former; mode = c.self.inside.mode })) c.args.node k (node_at (record { slots = c.self.inside.store.slots; marking = c.self.inside.marking; roots = c.self.inside.roots.list; marked_roots = c.self.inside.roots.former; mode = c.self.inside.mode }) c.args.node) (node_at (record { slots = c.self.inside.store.slots; marking = c.self.inside.marking; roots = c.self.inside.roots.list; marked_roots = c.self.inside.roots.former; mode = c.self.inside.mode }) k)) c.number-2.ensures
    ∙ ap (λ (v : ForestView). standing_of v.mode (node_at v) c.args.node c.args.by (node_at v c.args.node) (node_at v c.args.by)) c.self.view_is

pub standing_of-requires-clause-apart : goal.standing_of-requires-clause-apart
standing_of-requires-clause-apart c = stand_apart _ c.self.invariant.forest
