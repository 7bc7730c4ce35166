use Rattle.std.proofs.Common.{ap, ◌∙◌, sym}
use Rattle.std.specs.Prelude.{is_some}
use Rattle.cga_forest.specs.Hull.{hulls_known}
use Rattle.cga_forest.specs.View.{hulls_of, slot}
use Rattle.cga_forest.specs.Tree.{ForestView, node_at}
use Rattle.cga_forest.proofs.Present.{slot_there}
use Rattle.cga_forest.proofs.Right.{is_there}
use Rattle.cga_forest.proofs.Least.{least_asking_if, none_asking}
use Rattle.cga_forest.proofs.Forest.asking_hull.Goals as goal

pub entry-entry-requires : goal.entry-entry-requires
entry-entry-requires c = record { here = rw c.slot_of.ensures (slot_there (slot c.self.inside.store.slots c.args.id) (ap (λ (v : ForestView). is_some (node_at v c.args.id)) c.self.view_is ∙ c.requires.here)) }

pub returns-clause-least : goal.returns-clause-least
returns-clause-least c = rw (← c.self.view_is) (
    let e = is_there (node_at (record { slots = c.self.inside.store.slots; marking = c.self.inside.marking; roots = c.self.inside.roots.list; marked_roots = c.self.inside.roots.former; mode = c.self.inside.mode }) c.args.id) (ap (λ (v : ForestView). is_some (node_at v c.args.id)) c.self.view_is ∙ c.requires.here) in
    least_asking_if (record { slots = c.self.inside.store.slots; marking = c.self.inside.marking; roots = c.self.inside.roots.list; marked_roots = c.self.inside.roots.former; mode = c.self.inside.mode }) c.args.id e.0 (hulls_known c.entry-entry.result.now.node c.entry-entry.result.now.hulls) c.self.invariant.forest.present e.1 (rw (← c.slot_of.ensures) (ap hulls_of c.entry-entry.ensures)) c.asking_hull.result (sym c.asking_hull.ensures))

pub returns-clause-none : goal.returns-clause-none
returns-clause-none c = rw (← c.self.view_is, c.asking_hull.ensures) (
    let e = is_there (node_at (record { slots = c.self.inside.store.slots; marking = c.self.inside.marking; roots = c.self.inside.roots.list; marked_roots = c.self.inside.roots.former; mode = c.self.inside.mode }) c.args.id) (ap (λ (v : ForestView). is_some (node_at v c.args.id)) c.self.view_is ∙ c.requires.here) in
    none_asking (record { slots = c.self.inside.store.slots; marking = c.self.inside.marking; roots = c.self.inside.roots.list; marked_roots = c.self.inside.roots.former; mode = c.self.inside.mode }) c.args.id e.0 (hulls_known c.entry-entry.result.now.node c.entry-entry.result.now.hulls) c.self.invariant.forest.present e.1 (rw (← c.slot_of.ensures) (ap hulls_of c.entry-entry.ensures)))
