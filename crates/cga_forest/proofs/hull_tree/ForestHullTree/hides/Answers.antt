use Rattle.std.proofs.Common.{◌≡◌, ◌∙◌, ap, rules, sym}
use Rattle.std.specs.Prelude.{Some}
use Rattle.cga_index.specs.declared.standing.Standing.TheVariants.{Hidden}
use Rattle.cga_forest.specs.Standing.{standing_of}
use Rattle.cga_forest.specs.Tree.{ForestView, node_at}
use Rattle.cga_forest.specs.View.{seen}
use Rattle.cga_forest.proofs.Above.{above_exact}
use Rattle.cga_forest.proofs.Apart.{stand_apart}
use Rattle.cga_forest.proofs.Laws.{node_inside, slot_inside}
use Rattle.cga_forest.proofs.hull_tree.ForestHullTree.hides.Goals as goal

pub entry-entry-requires : goal.entry-entry-requires
entry-entry-requires c = record { here = slot_inside (record { slots = c.self.inside.store.slots; marking = c.self.inside.marking; roots = c.self.inside.roots.list; marked_roots = c.self.inside.roots.former; mode = c.self.inside.mode }) c.args.self.now c.self.view_is c.self.invariant.forest c.args.node c.number.result c.number.ensures c.requires.node }

pub entry-asker-requires : goal.entry-asker-requires
entry-asker-requires c = record { here = slot_inside (record { slots = c.self.inside.store.slots; marking = c.self.inside.marking; roots = c.self.inside.roots.list; marked_roots = c.self.inside.roots.former; mode = c.self.inside.mode }) c.args.self.now c.self.view_is c.self.invariant.forest c.args.by c.number-2.result c.number-2.ensures c.requires.by }

pub returns : goal.returns
returns c hides =
    let v : ForestView = (record { slots = c.self.inside.store.slots; marking = c.self.inside.marking; roots = c.self.inside.roots.list; marked_roots = c.self.inside.roots.former; mode = c.self.inside.mode }) in
    let forest = c.self.invariant.forest in
    let here : node_at v c.args.node ≡ Some (seen c.entry-entry.result.now) = ap (λ (w : ForestView). node_at w c.args.node) c.self.view_is ∙ node_inside v c.args.self.now c.self.view_is forest c.args.node c.number.result c.number.ensures c.requires.node c.entry-entry.result.now c.entry-entry.ensures in
    let asks : node_at v c.args.by ≡ Some (seen c.entry-asker.result.now) = ap (λ (w : ForestView). node_at w c.args.by) c.self.view_is ∙ node_inside v c.args.self.now c.self.view_is forest c.args.by c.number-2.result c.number-2.ensures c.requires.by c.entry-asker.result.now c.entry-asker.ensures in
    let above = above_exact (node_at v) forest.present.tree forest.present.places (stand_apart v forest) c.args.node c.args.by
    c.entry-entry.result.now c.entry-asker.result.now here asks c.is_above.result c.is_above.ensures in
    let hidden : standing_of v.mode (node_at v) c.args.node c.args.by (node_at v c.args.node) (node_at v c.args.by) ≡ Hidden = rw (here, asks, above ∙ hides) (search rules) in
    ap (λ (w : ForestView). standing_of w.mode (node_at w) c.args.node c.args.by (node_at w c.args.node) (node_at w c.args.by)) (sym c.self.view_is) ∙ hidden
