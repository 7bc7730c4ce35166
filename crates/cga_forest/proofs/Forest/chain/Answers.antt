use Rattle.std.proofs.Common.{◌≡◌, sym, subst, ap, ◌∙◌}
use Rattle.std.specs.Prelude.{is_some, Some}
use Rattle.cga_order.specs.Chain as order
use Rattle.cga_forest.specs.declared.slot_entry.SlotEntry.{SlotEntry}
use Rattle.cga_forest.specs.View.{Seen, present_of, slot}
use Rattle.cga_forest.specs.Tree.{ForestView, node_at}
use Rattle.cga_forest.proofs.Present.{present_some}
use Rattle.cga_forest.proofs.Right.{is_there}
use Rattle.cga_forest.specs.declared.node.Node.{Node}
use Rattle.cga_forest.specs.Node.{chain_kept}
use Rattle.cga_forest.proofs.Forest.chain.Goals as goal

pub returns-clause-whole : goal.returns-clause-whole
returns-clause-whole c =
    let v : ForestView = record { slots = c.self.inside.store.slots; marking = c.self.inside.marking; roots = c.self.inside.roots.list; marked_roots = c.self.inside.roots.former; mode = c.self.inside.mode } in
    let e = is_there (node_at v c.args.id) (ap (λ (w : ForestView). is_some (node_at w c.args.id)) c.self.view_is ∙ c.requires.here) in
    let h : slot c.self.inside.store.slots c.args.id ≡ Some c.entry.result.now = rw (← c.slot_of.ensures) c.entry.ensures in
    let x = present_some (Some c.entry.result.now) e.0 (ap present_of (sym h) ∙ e.1) in
    let w : order.IsWhole (chain_kept e.0.node) = c.self.invariant.forest.present.places.chain c.args.id e.0 e.1 in
    let y : c.entry.result.now ≡ x.0 = (let z = x.1 in (cc)) in
    let n : e.0.node ≡ c.entry.result.now.node = ap (λ (d : Seen). d.node) (sym x.2) ∙ ap (λ (k : SlotEntry). k.node) (sym y) in
    subst order.IsWhole (sym c.chain.ensures) (subst (λ (k : Node). order.IsWhole (chain_kept k)) n w)
