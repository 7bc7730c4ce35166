use Rattle.std.proofs.Common.{◌≡◌, ◌∙◌, true, refl, sym, ap, subst}
use Rattle.std.specs.Prelude.{Option, if◌then◌else◌}
use Rattle.cga_forest.specs.declared.slot_entry.SlotEntry.{SlotEntry}
use Rattle.cga_forest.specs.Numbers.{StaysTaken}
use Rattle.cga_marked.specs.Map.{KeepsPlaces}
use Rattle.cga_forest.specs.View.{hulls_of, present_of, slot}
use Rattle.cga_forest.specs.Tree.{ForestView, IsRootOf, hulls_at, node_at}
use Rattle.cga_forest.proofs.Covered.{covered_out, covered_part}
use Rattle.cga_forest.proofs.Heads.{settled_hulls}
use Rattle.cga_forest.proofs.ByName.{no_lot, root_from}
use Rattle.cga_forest.proofs.Marks.{IsForest-settled, IsForest-without_root, without_root, tops_left, cut_seen, hulls_flag, present_settled}
use Rattle.cga_forest.proofs.Forest.remove_lot.Goals as goal
use Rattle.cga_forest.proofs.Numbers.{taken_cut}

pub invariant_of-self : goal.invariant_of-self
invariant_of-self c = record {
  forest =
      let r = root_from (record { slots = c.self.inside.store.slots; marking = c.self.inside.marking; roots = c.self.inside.roots.list; marked_roots = c.self.inside.roots.former; mode = c.self.inside.mode }) c.self.invariant.forest c.args.name c.in-Some.root (sym c.in-Some.ensures.id) in
      IsForest-settled (record { slots = c.set_aside.new.store.slots; marking = c.self.inside.marking; roots = c.self.inside.roots.list; marked_roots = c.self.inside.roots.former; mode = c.self.inside.mode }) _ (λ k. c.settle.ensures k) c.if-not-self.true
      (without_root (record { slots = c.self.inside.store.slots; marking = c.self.inside.marking; roots = c.self.inside.roots.list; marked_roots = c.self.inside.roots.former; mode = c.self.inside.mode }) (record { slots = c.set_aside.new.store.slots; marking = c.self.inside.marking; roots = c.self.inside.roots.list; marked_roots = c.self.inside.roots.former; mode = c.self.inside.mode }) c.in-Some.root r.0 r.1 r.2 c.set_aside.ensures.pointwise c.self.invariant.forest)
      (rw c.settle_unless.ensures.list (tops_left (record { slots = c.self.inside.store.slots; marking = c.self.inside.marking; roots = c.self.inside.roots.list; marked_roots = c.self.inside.roots.former; mode = c.self.inside.mode }) (record { slots = c.set_aside.new.store.slots; marking = c.self.inside.marking; roots = c.self.inside.roots.list; marked_roots = c.self.inside.roots.former; mode = c.self.inside.mode }) c.in-Some.root r.0 r.1 r.2 c.set_aside.ensures.pointwise c.self.invariant.forest c.args.name c.take_out.new.self.list c.in-Some.ensures.gone c.take_out.ensures.apart))
      (c.settle_unless.ensures.former ∙ ap (λ b. if b then c.take_out.new.self.former else c.take_out.new.self.list) c.if-not-self.true ∙ sym c.settle_unless.ensures.list);
  covered = covered_part c.cover_place.new.blocks c.settle_unless.new.self.list _ (hulls_at (record { slots = c.self.inside.store.slots; marking = c.self.inside.marking; roots = c.self.inside.roots.list; marked_roots = c.self.inside.roots.former; mode = c.self.inside.mode })) _ refl
      (λ k h e. sym (ap hulls_of (c.set_aside.ensures.pointwise k) ∙ hulls_flag _ (slot c.self.inside.store.slots k)) ∙ settled_hulls (slot c.set_aside.new.store.slots k) h (sym (ap hulls_of (c.settle.ensures k)) ∙ e))
      (covered_out c.self.inside.blocks c.cover_place.new.blocks c.self.inside.roots.list c.settle_unless.new.self.list (hulls_at (record { slots = c.self.inside.store.slots; marking = c.self.inside.marking; roots = c.self.inside.roots.list; marked_roots = c.self.inside.roots.former; mode = c.self.inside.mode })) c.in-Some.place (subst (KeepsPlaces c.in-Some.place c.self.inside.roots.list) (sym c.settle_unless.ensures.list) c.in-Some.ensures.kept) c.cover_place.ensures.kept c.cover_place.ensures.here c.self.invariant.covered);
}

pub invariant_of-self-else-not-self : goal.invariant_of-self-else-not-self
invariant_of-self-else-not-self c = record {
  forest =
      let r = root_from (record { slots = c.self.inside.store.slots; marking = c.self.inside.marking; roots = c.self.inside.roots.list; marked_roots = c.self.inside.roots.former; mode = c.self.inside.mode }) c.self.invariant.forest c.args.name c.in-Some.root (sym c.in-Some.ensures.id) in
      IsForest-without_root (record { slots = c.self.inside.store.slots; marking = c.self.inside.marking; roots = c.self.inside.roots.list; marked_roots = c.self.inside.roots.former; mode = c.self.inside.mode }) _ c.in-Some.root r.0 r.1 r.2 c.set_aside.ensures.pointwise c.self.invariant.forest c.if-not-self.false c.if-not-self.false
      (rw c.settle_unless.ensures.list (tops_left (record { slots = c.self.inside.store.slots; marking = c.self.inside.marking; roots = c.self.inside.roots.list; marked_roots = c.self.inside.roots.former; mode = c.self.inside.mode }) (record { slots = c.set_aside.new.store.slots; marking = c.self.inside.marking; roots = c.self.inside.roots.list; marked_roots = c.self.inside.roots.former; mode = c.self.inside.mode }) c.in-Some.root r.0 r.1 r.2 c.set_aside.ensures.pointwise c.self.invariant.forest c.args.name c.take_out.new.self.list c.in-Some.ensures.gone c.take_out.ensures.apart))
      (c.settle_unless.ensures.former ∙ ap (λ b. if b then c.take_out.new.self.former else c.take_out.new.self.list) c.if-not-self.false ∙ c.take_out.ensures.former);
  covered = covered_part c.cover_place.new.blocks c.settle_unless.new.self.list _ (hulls_at (record { slots = c.self.inside.store.slots; marking = c.self.inside.marking; roots = c.self.inside.roots.list; marked_roots = c.self.inside.roots.former; mode = c.self.inside.mode })) _ refl
      (λ k h e. sym (ap hulls_of (c.set_aside.ensures.pointwise k) ∙ hulls_flag _ (slot c.self.inside.store.slots k)) ∙ e)
      (covered_out c.self.inside.blocks c.cover_place.new.blocks c.self.inside.roots.list c.settle_unless.new.self.list (hulls_at (record { slots = c.self.inside.store.slots; marking = c.self.inside.marking; roots = c.self.inside.roots.list; marked_roots = c.self.inside.roots.former; mode = c.self.inside.mode })) c.in-Some.place (subst (KeepsPlaces c.in-Some.place c.self.inside.roots.list) (sym c.settle_unless.ensures.list) c.in-Some.ensures.kept) c.cover_place.ensures.kept c.cover_place.ensures.here c.self.invariant.covered);
}

pub returns-then-not-self-clause-there : goal.returns-then-not-self-clause-there
returns-then-not-self-clause-there c = λ _.
    let r = root_from (record { slots = c.self.inside.store.slots; marking = c.self.inside.marking; roots = c.self.inside.roots.list; marked_roots = c.self.inside.roots.former; mode = c.self.inside.mode }) c.self.invariant.forest c.args.name c.in-Some.root (sym c.in-Some.ensures.id) in (
      c.in-Some.root,
      subst (λ (v : ForestView). IsRootOf (node_at v) c.args.name c.in-Some.root) c.self.view_is r,
      λ k.
          rw (← c.self.view_is) (ap present_of (c.settle.ensures k) ∙ present_settled (slot c.set_aside.new.store.slots k) ∙ cut_seen (record { slots = c.self.inside.store.slots; marking = c.self.inside.marking; roots = c.self.inside.roots.list; marked_roots = c.self.inside.roots.former; mode = c.self.inside.mode }) (record { slots = c.set_aside.new.store.slots; marking = c.self.inside.marking; roots = c.self.inside.roots.list; marked_roots = c.self.inside.roots.former; mode = c.self.inside.mode }) c.in-Some.root r.0 r.1 r.2 c.set_aside.ensures.pointwise c.self.invariant.forest k),
    )

pub returns-else-not-self-clause-there : goal.returns-else-not-self-clause-there
returns-else-not-self-clause-there c = λ _.
    let r = root_from (record { slots = c.self.inside.store.slots; marking = c.self.inside.marking; roots = c.self.inside.roots.list; marked_roots = c.self.inside.roots.former; mode = c.self.inside.mode }) c.self.invariant.forest c.args.name c.in-Some.root (sym c.in-Some.ensures.id) in (
      c.in-Some.root,
      subst (λ (v : ForestView). IsRootOf (node_at v) c.args.name c.in-Some.root) c.self.view_is r,
      λ k.
          rw (← c.self.view_is) (cut_seen (record { slots = c.self.inside.store.slots; marking = c.self.inside.marking; roots = c.self.inside.roots.list; marked_roots = c.self.inside.roots.former; mode = c.self.inside.mode }) (record { slots = c.set_aside.new.store.slots; marking = c.self.inside.marking; roots = c.self.inside.roots.list; marked_roots = c.self.inside.roots.former; mode = c.self.inside.mode }) c.in-Some.root r.0 r.1 r.2 c.set_aside.ensures.pointwise c.self.invariant.forest k),
    )

pub returns-in-None-clause-absent : goal.returns-in-None-clause-absent
returns-in-None-clause-absent c = λ _. no_lot (record { slots = c.self.inside.store.slots; marking = c.self.inside.marking; roots = c.self.inside.roots.list; marked_roots = c.self.inside.roots.former; mode = c.self.inside.mode }) c.args.self.now c.self.view_is c.self.invariant.forest c.args.name c.in-None.ensures.id

pub returns-else-not-self-clause-numbers : goal.returns-else-not-self-clause-numbers
returns-else-not-self-clause-numbers c on k =
    rw (← c.self.view_is) (subst (λ (s : Option SlotEntry). StaysTaken (slot c.self.inside.store.slots k) s) (sym (c.set_aside.ensures.pointwise k)) (taken_cut _ (slot c.self.inside.store.slots k)))

pub returns-then-not-self-clause-numbers : goal.returns-then-not-self-clause-numbers
returns-then-not-self-clause-numbers c on k =
    absurd (let yes : c.self.inside.marking ≡ true = ap (λ (v : ForestView). v.marking) c.self.view_is ∙ on in let no = c.if-not-self.true in cc)
