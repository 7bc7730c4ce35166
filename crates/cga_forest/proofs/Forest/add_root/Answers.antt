use Rattle.std.proofs.Common.{◌≡◌, ◌≤◌, length, swap, refl, sym, ap, arith, ◌∙◌, subst, List, ◌++◌, ◌∷◌, []}
use Rattle.std.specs.Prelude.{Option, if◌then◌else◌}
use Rattle.cga_forest.specs.declared.slot_entry.SlotEntry.{SlotEntry}
use Rattle.std.proofs.lemmas.List.{length_push}
use Rattle.std.proofs.lemmas.List.Sorted.{IsPermutation-swap}
use Rattle.cga_marked.specs.Map.{AreApart, Named}
use Rattle.cga_forest.specs.Tree.{IsForest, node_at, hulls_at}
use Rattle.cga_forest.proofs.ByName.{no_root}
use Rattle.cga_forest.proofs.Marks.{IsForest-added, new_root}
use Rattle.cga_forest.proofs.Forest.add_root.Goals as goal
use Rattle.cga_forest.specs.View.{hulls_of, present_of, slot}
use Rattle.cga_forest.proofs.Covered.{covered_added, covered_made}
use Rattle.cga_forest.specs.Numbers.{StaysTaken}
use Rattle.cga_forest.proofs.Numbers.{taken_added}

pub push-place-requires-clause-absent : goal.push-place-requires-clause-absent
push-place-requires-clause-absent c = rw (c.in_ok-reserve-2.ensures.list, c.lot-name.ensures) (no_root (record { slots = c.self.inside.store.slots; marking = c.self.inside.marking; roots = c.self.inside.roots.list; marked_roots = c.self.inside.roots.former; mode = c.self.inside.mode }) c.args.self.now c.self.view_is c.self.invariant.forest c.args.node.shape.lot c.requires.new)

pub invariant_of-self : goal.invariant_of-self
invariant_of-self c = record { forest = c.self.invariant.forest; covered = covered_made c.self.inside.blocks c.make_room.new.self c.self.inside.roots.list (hulls_at (record { slots = c.self.inside.store.slots; marking = c.self.inside.marking; roots = c.self.inside.roots.list; marked_roots = c.self.inside.roots.former; mode = c.self.inside.mode })) c.len-last.result c.len-last.ensures c.make_room.ensures c.self.invariant.covered }

pub invariant_of-self-in_err-reserve : goal.invariant_of-self-in_err-reserve
invariant_of-self-in_err-reserve c = rw c.in_err-reserve.ensures.slots (record { forest = c.self.invariant.forest; covered = covered_made c.self.inside.blocks c.make_room.new.self c.self.inside.roots.list (hulls_at (record { slots = c.self.inside.store.slots; marking = c.self.inside.marking; roots = c.self.inside.roots.list; marked_roots = c.self.inside.roots.former; mode = c.self.inside.mode })) c.len-last.result c.len-last.ensures c.make_room.ensures c.self.invariant.covered })

pub invariant_of-self-in_err-reserve-2 : goal.invariant_of-self-in_err-reserve-2
invariant_of-self-in_err-reserve-2 c = rw (c.in_ok-reserve.ensures.slots, c.in_err-reserve-2.ensures.list, c.in_err-reserve-2.ensures.former) (record { forest = c.self.invariant.forest; covered = covered_made c.self.inside.blocks c.make_room.new.self c.self.inside.roots.list (hulls_at (record { slots = c.self.inside.store.slots; marking = c.self.inside.marking; roots = c.self.inside.roots.list; marked_roots = c.self.inside.roots.former; mode = c.self.inside.mode })) c.len-last.result c.len-last.ensures c.make_room.ensures c.self.invariant.covered })

pub invariant_of-self-2 : goal.invariant_of-self-2
invariant_of-self-2 c =
    let low : c.push-place.result ≤ length c.self.inside.roots.list = subst (λ (l : Named). c.push-place.result ≤ length l) c.in_ok-reserve-2.ensures.list c.push-place.ensures.place in
    let long = length_push c.self.inside.roots.list (c.args.node.shape.lot, c.add_node-id.result) in
    let is : c.settle_unless.new.self.list ≡ swap (c.self.inside.roots.list ++ (c.args.node.shape.lot, c.add_node-id.result) ∷ []) c.push-place.result (length c.self.inside.roots.list) =
    c.settle_unless.ensures.list ∙ c.push-place.ensures.list ∙ (λ i. swap (c.in_ok-reserve-2.ensures.list i ++ (c.lot-name.ensures i, c.add_node-id.result) ∷ []) c.push-place.result (length (c.in_ok-reserve-2.ensures.list i))) in
    record {
      forest = IsForest-added (record { slots = c.reserve.new.self.slots; marking = c.self.inside.marking; roots = c.self.inside.roots.list; marked_roots = c.self.inside.roots.former; mode = c.self.inside.mode }) _ c.add_node-id.result c.args.node c.add_node-id.ensures.vacant (new_root (slot c.add_node-id.new.store.slots c.add_node-id.result) c.args.node c.self.inside.marking c.requires.top c.add_node-id.ensures.here) (λ k n. c.add_node-id.ensures.others k n) c.requires.top refl
          (IsPermutation-swap _ _ c.push-place.result (length c.self.inside.roots.list) (omega (arith, low, long)) (omega (arith, long)) is)
          (subst AreApart (sym c.settle_unless.ensures.list) c.push-place.ensures.apart)
          (c.settle_unless.ensures.former ∙ (λ i. if c.self.inside.marking then (c.push-place.ensures.former ∙ c.in_ok-reserve-2.ensures.former) i else sym c.settle_unless.ensures.list i))
          (subst (λ (xs : List (Option SlotEntry)). IsForest (record { slots = xs; marking = c.self.inside.marking; roots = c.self.inside.roots.list; marked_roots = c.self.inside.roots.former; mode = c.self.inside.mode })) (sym c.in_ok-reserve.ensures.slots) c.self.invariant.forest);
      covered =
          covered_added (node_at (record { slots = c.self.inside.store.slots; marking = c.self.inside.marking; roots = c.self.inside.roots.list; marked_roots = c.self.inside.roots.former; mode = c.self.inside.mode })) c.self.inside.roots.list _ (hulls_at (record { slots = c.self.inside.store.slots; marking = c.self.inside.marking; roots = c.self.inside.roots.list; marked_roots = c.self.inside.roots.former; mode = c.self.inside.mode })) _ c.self.inside.blocks c.make_room.new.self c.cover_place.new.blocks c.cover_place-2.new.blocks c.args.node.shape.lot c.add_node-id.result c.push-place.result
          (record {
            known = c.self.invariant.forest.tops;
            fresh = ap (λ (xs : List (Option SlotEntry)). present_of (slot xs c.add_node-id.result)) (sym c.in_ok-reserve.ensures.slots) ∙ ap present_of c.add_node-id.ensures.vacant;
            others = λ k n. ap hulls_of (c.add_node-id.ensures.others k n) ∙ ap (λ (xs : List (Option SlotEntry)). hulls_of (slot xs k)) c.in_ok-reserve.ensures.slots;
            made = λ i h lt e. c.make_room.ensures i h (let n = c.len-last.ensures in omega (arith, lt, n)) e;
            kept = c.cover_place.ensures.kept;
            more = c.cover_place-2.ensures.kept;
            low = low;
            pushed = is;
            here = c.cover_place.ensures.here;
            there = rw (← c.len-last.ensures) c.cover_place-2.ensures.here;
          }) c.self.invariant.covered;
    }

pub returns-clause-numbers : goal.returns-clause-numbers
returns-clause-numbers c on k =
    rw (← c.self.view_is)
    (subst (λ (xs : List (Option SlotEntry)). StaysTaken (slot xs k) (slot c.add_node-id.new.store.slots k)) c.in_ok-reserve.ensures.slots
    (taken_added (λ n. slot c.reserve.new.self.slots n) (λ n. slot c.add_node-id.new.store.slots n) c.add_node-id.result c.add_node-id.ensures.vacant c.add_node-id.ensures.others k))
