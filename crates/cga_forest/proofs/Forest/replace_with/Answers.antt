use Rattle.std.proofs.Common.{refl, true, Some, ◌≡◌, ◌++◌, ◌-◌, ℕ, List, length, sym, ◌∙◌, ap, subst, arith}
use Rattle.std.specs.Prelude.{Option, is_some}
use Rattle.cga_forest.proofs.Present.{depth_present}
use Rattle.cga_forest.proofs.Right.{is_there}
use Rattle.cga_forest.specs.declared.slot_entry.SlotEntry.{SlotEntry}
use Rattle.cga_forest.specs.Gathered.{coming, found, going}
use Rattle.cga_forest.specs.View.{at, kids, slot, present_of, marked_of, hulls_of, marked_hulls_of}
use Rattle.cga_forest.specs.Tree.{ForestView, IsWhole, depth_at, stay_of, slot_at, node_at, hulls_at, marked_at}
use Rattle.cga_forest.proofs.Marks.{IsWhole-same, IsForest-settled, IsForest-marked, present_settled}
use Rattle.cga_forest.proofs.Covered.{covered_but, covered_part}
use Rattle.cga_forest.proofs.Heads.{settled_hulls}
use Rattle.cga_forest.proofs.Through.{tops_replaced, ReplacedBy-same, Replaces-from, ListsOnlyIn-same}
use Rattle.cga_forest.specs.declared.node_change.NodeChange.{NodeChange}
use Rattle.cga_forest.specs.NodeChange.{ListsOnlyIn, is_listed}
use Rattle.cga_forest.proofs.RemovedAndCreated.{listed_goes, lists_removed, lists_created}
use Rattle.cga_forest.proofs.Tree.{IsTree-same}
use Rattle.cga_forest.proofs.Tops.{HasRoots-same}
use Rattle.cga_forest.proofs.Forest.replace_with.Goals as goal
use Rattle.cga_forest.proofs.Forest.replace_with.Goals.{then-not-self, else-not-self}
use Rattle.cga_forest.specs.Numbers.{StaysTaken}

pub overflow_add-depth : goal.overflow_add-depth
overflow_add-depth c =
    let there : node_at (record { slots = c.self.inside.store.slots; marking = c.self.inside.marking; roots = c.self.inside.roots.list; marked_roots = c.self.inside.roots.former; mode = c.self.inside.mode }) c.args.id ≡ Some c.requires.here.0 = ap (λ (v : ForestView). node_at v c.args.id) c.self.view_is ∙ c.requires.here.1 in
    let shallow = c.self.invariant.forest.present.tree.shallow c.args.id c.requires.here.0 there in
    let is : c.depth_of-depth.result ≡ c.requires.here.0.depth = c.depth_of-depth.ensures ∙ ap (λ (xs : List (Option SlotEntry)). depth_at (slot xs c.args.id)) c.in_ok-reserve.ensures.slots ∙ depth_present (slot c.self.inside.store.slots c.args.id) c.requires.here.0 there in
    omega arith

pub overflow_sub-left : goal.overflow_sub-left
overflow_sub-left c =
    let there : node_at (record { slots = c.self.inside.store.slots; marking = c.self.inside.marking; roots = c.self.inside.roots.list; marked_roots = c.self.inside.roots.former; mode = c.self.inside.mode }) c.args.id ≡ Some c.requires.here.0 = ap (λ (v : ForestView). node_at v c.args.id) c.self.view_is ∙ c.requires.here.1 in
    let shallow = c.self.invariant.forest.present.tree.shallow c.args.id c.requires.here.0 there in
    let is : c.depth_of-depth.result ≡ c.requires.here.0.depth = c.depth_of-depth.ensures ∙ ap (λ (xs : List (Option SlotEntry)). depth_at (slot xs c.args.id)) c.in_ok-reserve.ensures.slots ∙ depth_present (slot c.self.inside.store.slots c.args.id) c.requires.here.0 there in
    omega arith

pub replace-changed-requires-clause-here : goal.replace-changed-requires-clause-here
replace-changed-requires-clause-here c =
    let there = ap (λ (s : List (Option SlotEntry)). present_of (slot s c.args.id)) c.in_ok-reserve.ensures.slots ∙ (ap (λ (v : ForestView). node_at v c.args.id) c.self.view_is ∙ c.requires.here.1) in
    (c.requires.here.0, there, c.requires.here.2)

pub replace-changed-requires-clause-spares : goal.replace-changed-requires-clause-spares
replace-changed-requires-clause-spares c = let is = c.depth_of-depth.ensures in let many = c.in_ok-provide.ensures in omega arith

pub replace-changed-requires-clause-whole : goal.replace-changed-requires-clause-whole
replace-changed-requires-clause-whole c = IsWhole-same (node_at (record { slots = c.self.inside.store.slots; marking = c.self.inside.marking; roots = c.self.inside.roots.list; marked_roots = c.self.inside.roots.former; mode = c.self.inside.mode })) _ (hulls_at (record { slots = c.self.inside.store.slots; marking = c.self.inside.marking; roots = c.self.inside.roots.list; marked_roots = c.self.inside.roots.former; mode = c.self.inside.mode })) _ (λ k. ap (λ (s : List (Option SlotEntry)). present_of (slot s k)) c.in_ok-reserve.ensures.slots) (λ k e t. ap (λ (s : List (Option SlotEntry)). hulls_of (slot s k)) c.in_ok-reserve.ensures.slots) c.self.invariant.forest.present

pub replace-changed-requires-clause-removed : goal.replace-changed-requires-clause-removed
replace-changed-requires-clause-removed c k =
    let there = ap (λ (s : List (Option SlotEntry)). present_of (slot s c.args.id)) c.in_ok-reserve.ensures.slots ∙ (ap (λ (v : ForestView). node_at v c.args.id) c.self.view_is ∙ c.requires.here.1) in
    let whole : IsWhole (λ k. present_of (at c.reserve.new.self k)) (λ k. hulls_of (at c.reserve.new.self k)) = IsWhole-same (node_at (record { slots = c.self.inside.store.slots; marking = c.self.inside.marking; roots = c.self.inside.roots.list; marked_roots = c.self.inside.roots.former; mode = c.self.inside.mode })) _ (hulls_at (record { slots = c.self.inside.store.slots; marking = c.self.inside.marking; roots = c.self.inside.roots.list; marked_roots = c.self.inside.roots.former; mode = c.self.inside.mode })) _ (λ k. ap (λ (s : List (Option SlotEntry)). present_of (slot s k)) c.in_ok-reserve.ensures.slots) (λ k e t. ap (λ (s : List (Option SlotEntry)). hulls_of (slot s k)) c.in_ok-reserve.ensures.slots) c.self.invariant.forest.present in
    let gathered : c.in_ok-plan.plan.removed.items ≡ found (λ k. at c.reserve.new.self k) (going (λ d. kids (at c.reserve.new.self d)) (256 - depth_at (at c.reserve.new.self c.args.id)) (λ k w. stay_of (at c.reserve.new.self k) w) (kids (at c.reserve.new.self c.args.id)) c.args.news.items (length (kids (at c.reserve.new.self c.args.id)))) =
    rw (← c.as_slice.ensures.value, ← c.depth_of-depth.ensures) c.in_ok-plan.ensures.removed in
    ap (λ (l : List NodeChange). is_listed l k) gathered
    ∙ listed_goes (λ d. at c.reserve.new.self d) c.args.id (256 - depth_at (at c.reserve.new.self c.args.id)) c.args.news.items c.requires.here.0 whole.tree there k

pub cover_root-requires-clause-tops : goal.cover_root-requires-clause-tops
cover_root-requires-clause-tops c = tops_replaced (λ k. present_of (at c.reserve.new.self k)) (λ k. present_of (at c.replace-changed.new.store k)) c.self.inside.roots.list c.args.id c.args.state c.args.news.items _ c.replace-changed.ensures.replaced
    (IsTree-same (node_at (record { slots = c.self.inside.store.slots; marking = c.self.inside.marking; roots = c.self.inside.roots.list; marked_roots = c.self.inside.roots.former; mode = c.self.inside.mode })) (λ k. present_of (at c.reserve.new.self k)) (λ k. ap (λ (s : List (Option SlotEntry)). present_of (slot s k)) c.in_ok-reserve.ensures.slots) c.self.invariant.forest.present.tree)
    (HasRoots-same (node_at (record { slots = c.self.inside.store.slots; marking = c.self.inside.marking; roots = c.self.inside.roots.list; marked_roots = c.self.inside.roots.former; mode = c.self.inside.mode })) (λ k. present_of (at c.reserve.new.self k)) c.self.inside.roots.list (λ k. ap (λ (s : List (Option SlotEntry)). present_of (slot s k)) c.in_ok-reserve.ensures.slots) c.self.invariant.forest.tops)

pub cover_root-requires-clause-others : goal.cover_root-requires-clause-others
cover_root-requires-clause-others c =
    covered_but (node_at (record { slots = c.self.inside.store.slots; marking = c.self.inside.marking; roots = c.self.inside.roots.list; marked_roots = c.self.inside.roots.former; mode = c.self.inside.mode })) c.self.inside.roots.list (hulls_at (record { slots = c.self.inside.store.slots; marking = c.self.inside.marking; roots = c.self.inside.roots.list; marked_roots = c.self.inside.roots.former; mode = c.self.inside.mode })) (λ k. hulls_of (at c.replace-changed.new.store k)) c.self.inside.blocks c.replace-changed.result c.self.invariant.forest.tops
    (λ k d t top n. c.replace-changed.ensures.others k d (ap (λ (s : List (Option SlotEntry)). present_of (slot s k)) c.in_ok-reserve.ensures.slots ∙ t) top n ∙ ap (λ (s : List (Option SlotEntry)). hulls_of (slot s k)) c.in_ok-reserve.ensures.slots)
    c.self.invariant.covered

pub invariant_of-self-then-not-self : goal.invariant_of-self-then-not-self
invariant_of-self-then-not-self c = record {
  forest = IsForest-settled (record { slots = c.replace-changed.new.store.slots; marking = c.self.inside.marking; roots = c.self.inside.roots.list; marked_roots = c.self.inside.roots.former; mode = c.self.inside.mode }) _ (λ k. c.settle.ensures k) c.if-not-self.true c.replace-changed.ensures.whole
      (tops_replaced (λ k. present_of (at c.reserve.new.self k)) (λ k. present_of (at c.replace-changed.new.store k)) c.self.inside.roots.list c.args.id c.args.state c.args.news.items _ c.replace-changed.ensures.replaced
      (IsTree-same (node_at (record { slots = c.self.inside.store.slots; marking = c.self.inside.marking; roots = c.self.inside.roots.list; marked_roots = c.self.inside.roots.former; mode = c.self.inside.mode })) (λ k. present_of (at c.reserve.new.self k)) (λ k. ap (λ (s : List (Option SlotEntry)). present_of (slot s k)) c.in_ok-reserve.ensures.slots) c.self.invariant.forest.present.tree)
      (HasRoots-same (node_at (record { slots = c.self.inside.store.slots; marking = c.self.inside.marking; roots = c.self.inside.roots.list; marked_roots = c.self.inside.roots.former; mode = c.self.inside.mode })) (λ k. present_of (at c.reserve.new.self k)) c.self.inside.roots.list (λ k. ap (λ (s : List (Option SlotEntry)). present_of (slot s k)) c.in_ok-reserve.ensures.slots) c.self.invariant.forest.tops)) (c.self.invariant.forest.unmarked c.if-not-self.true);
  covered = covered_part c.cover_root.new.blocks c.self.inside.roots.list _ (λ k. hulls_of (at c.replace-changed.new.store k)) _ refl (λ k h e. settled_hulls (at c.replace-changed.new.store k) h (sym (ap hulls_of (c.settle.ensures k)) ∙ e)) c.cover_root.ensures;
}

pub invariant_of-self-else-not-self : goal.invariant_of-self-else-not-self
invariant_of-self-else-not-self c = record {
  forest = IsForest-marked (record { slots = c.self.inside.store.slots; marking = c.self.inside.marking; roots = c.self.inside.roots.list; marked_roots = c.self.inside.roots.former; mode = c.self.inside.mode }) _ c.self.invariant.forest c.replace-changed.ensures.whole c.if-not-self.false c.if-not-self.false
      (λ k. c.replace-changed.ensures.marked c.if-not-self.false k ∙ ap (λ (s : List (Option SlotEntry)). marked_of (slot s k)) c.in_ok-reserve.ensures.slots)
      (λ k. c.replace-changed.ensures.marked_hulls c.if-not-self.false k ∙ ap (λ (s : List (Option SlotEntry)). marked_hulls_of (slot s k)) c.in_ok-reserve.ensures.slots)
      (tops_replaced (λ k. present_of (at c.reserve.new.self k)) (λ k. present_of (at c.replace-changed.new.store k)) c.self.inside.roots.list c.args.id c.args.state c.args.news.items _ c.replace-changed.ensures.replaced
      (IsTree-same (node_at (record { slots = c.self.inside.store.slots; marking = c.self.inside.marking; roots = c.self.inside.roots.list; marked_roots = c.self.inside.roots.former; mode = c.self.inside.mode })) (λ k. present_of (at c.reserve.new.self k)) (λ k. ap (λ (s : List (Option SlotEntry)). present_of (slot s k)) c.in_ok-reserve.ensures.slots) c.self.invariant.forest.present.tree)
      (HasRoots-same (node_at (record { slots = c.self.inside.store.slots; marking = c.self.inside.marking; roots = c.self.inside.roots.list; marked_roots = c.self.inside.roots.former; mode = c.self.inside.mode })) (λ k. present_of (at c.reserve.new.self k)) c.self.inside.roots.list (λ k. ap (λ (s : List (Option SlotEntry)). present_of (slot s k)) c.in_ok-reserve.ensures.slots) c.self.invariant.forest.tops)) refl;
  covered = c.cover_root.ensures;
}

pub returns-clause-replaced : goal.returns-clause-replaced
returns-clause-replaced c =
    let now : (k : ℕ) → node_at c.if-not-self.self k ≡ present_of (at c.replace-changed.new.store k) = elim c.if-not-self.branch [
      | then-not-self w ↦ λ k. rw w.self-is (ap present_of (w.settle.ensures k) ∙ present_settled (at c.replace-changed.new.store k))
      | else-not-self w ↦ λ k. rw w.self-is refl
    ] in
    Replaces-from _ _ _ _ _ _ (ReplacedBy-same (λ k. present_of (at c.reserve.new.self k)) (λ k. present_of (at c.replace-changed.new.store k)) _ _ c.args.id c.args.state c.args.news.items _
    (λ k. ap (λ (v : ForestView). node_at v k) (sym c.self.view_is) ∙ ap (λ (s : List (Option SlotEntry)). present_of (slot s k)) (sym c.in_ok-reserve.ensures.slots))
    now c.replace-changed.ensures.replaced)

pub returns-clause-removed : goal.returns-clause-removed
returns-clause-removed c =
    let now : (k : ℕ) → node_at c.if-not-self.self k ≡ present_of (at c.replace-changed.new.store k) = elim c.if-not-self.branch [
      | then-not-self w ↦ λ k. rw w.self-is (ap present_of (w.settle.ensures k) ∙ present_settled (at c.replace-changed.new.store k))
      | else-not-self w ↦ λ k. rw w.self-is refl
    ] in
    let old : (k : ℕ) → node_at c.args.self.now k ≡ present_of (at c.reserve.new.self k) = (λ k. ap (λ (v : ForestView). node_at v k) (sym c.self.view_is) ∙ ap (λ (s : List (Option SlotEntry)). present_of (slot s k)) (sym c.in_ok-reserve.ensures.slots)) in
    let whole : IsWhole (λ k. present_of (at c.reserve.new.self k)) (λ k. hulls_of (at c.reserve.new.self k)) = IsWhole-same (node_at (record { slots = c.self.inside.store.slots; marking = c.self.inside.marking; roots = c.self.inside.roots.list; marked_roots = c.self.inside.roots.former; mode = c.self.inside.mode })) _ (hulls_at (record { slots = c.self.inside.store.slots; marking = c.self.inside.marking; roots = c.self.inside.roots.list; marked_roots = c.self.inside.roots.former; mode = c.self.inside.mode })) _ (λ k. ap (λ (s : List (Option SlotEntry)). present_of (slot s k)) c.in_ok-reserve.ensures.slots) (λ k e t. ap (λ (s : List (Option SlotEntry)). hulls_of (slot s k)) c.in_ok-reserve.ensures.slots) c.self.invariant.forest.present in
    let gathered : c.in_ok-plan.plan.removed.items ≡ found (λ k. at c.reserve.new.self k) (going (λ d. kids (at c.reserve.new.self d)) (256 - depth_at (at c.reserve.new.self c.args.id)) (λ k w. stay_of (at c.reserve.new.self k) w) (kids (at c.reserve.new.self c.args.id)) c.args.news.items (length (kids (at c.reserve.new.self c.args.id)))) =
    rw (← c.as_slice.ensures.value, ← c.depth_of-depth.ensures) c.in_ok-plan.ensures.removed in
    ListsOnlyIn-same (λ k. present_of (at c.reserve.new.self k)) (λ k. present_of (at c.replace-changed.new.store k)) _ _ _ old now
    (subst (λ (l : List NodeChange). ListsOnlyIn (λ k. present_of (at c.reserve.new.self k)) (λ k. present_of (at c.replace-changed.new.store k)) l) (sym (c.from_vec.ensures ∙ c.replace-changed.ensures.removed ∙ gathered))
    (lists_removed (λ k. at c.reserve.new.self k) (λ k. present_of (at c.replace-changed.new.store k)) c.args.id _ c.args.news.items c.replace-changed.ensures.replaced.0 _ whole.tree c.replace-changed.ensures.replaced.2))

pub returns-clause-created : goal.returns-clause-created
returns-clause-created c =
    let now : (k : ℕ) → node_at c.if-not-self.self k ≡ present_of (at c.replace-changed.new.store k) = elim c.if-not-self.branch [
      | then-not-self w ↦ λ k. rw w.self-is (ap present_of (w.settle.ensures k) ∙ present_settled (at c.replace-changed.new.store k))
      | else-not-self w ↦ λ k. rw w.self-is refl
    ] in
    let old : (k : ℕ) → node_at c.args.self.now k ≡ present_of (at c.reserve.new.self k) = (λ k. ap (λ (v : ForestView). node_at v k) (sym c.self.view_is) ∙ ap (λ (s : List (Option SlotEntry)). present_of (slot s k)) (sym c.in_ok-reserve.ensures.slots)) in
    let whole : IsWhole (λ k. present_of (at c.reserve.new.self k)) (λ k. hulls_of (at c.reserve.new.self k)) = IsWhole-same (node_at (record { slots = c.self.inside.store.slots; marking = c.self.inside.marking; roots = c.self.inside.roots.list; marked_roots = c.self.inside.roots.former; mode = c.self.inside.mode })) _ (hulls_at (record { slots = c.self.inside.store.slots; marking = c.self.inside.marking; roots = c.self.inside.roots.list; marked_roots = c.self.inside.roots.former; mode = c.self.inside.mode })) _ (λ k. ap (λ (s : List (Option SlotEntry)). present_of (slot s k)) c.in_ok-reserve.ensures.slots) (λ k e t. ap (λ (s : List (Option SlotEntry)). hulls_of (slot s k)) c.in_ok-reserve.ensures.slots) c.self.invariant.forest.present in
    let t = λ (k : ℕ). at c.replace-changed.new.store k in
    let gathered = c.replace-changed.ensures.created ∙ ap (λ (l : List NodeChange). l ++ found t (coming (kids (at c.reserve.new.self c.args.id)) (kids (t c.args.id)) (length (kids (t c.args.id))))) c.in_ok-plan.ensures.empty in
    ListsOnlyIn-same (λ k. present_of (at c.replace-changed.new.store k)) (λ k. present_of (at c.reserve.new.self k)) _ _ _ now old
    (subst (λ (l : List NodeChange). ListsOnlyIn (λ k. present_of (at c.replace-changed.new.store k)) (λ k. present_of (at c.reserve.new.self k)) l) (sym (c.from_vec-2.ensures ∙ gathered))
    (lists_created (λ k. at c.reserve.new.self k) (λ k. present_of (at c.replace-changed.new.store k)) c.args.id _ c.args.news.items c.replace-changed.ensures.replaced.0 _ whole.tree c.replace-changed.ensures.replaced.2 (λ k. at c.replace-changed.new.store k) (λ k. refl)))

pub returns-clause-unmarked : goal.returns-clause-unmarked
returns-clause-unmarked c k h t =
    let now : (k : ℕ) → node_at c.if-not-self.self k ≡ present_of (at c.replace-changed.new.store k) = elim c.if-not-self.branch [
      | then-not-self w ↦ λ k. rw w.self-is (ap present_of (w.settle.ensures k) ∙ present_settled (at c.replace-changed.new.store k))
      | else-not-self w ↦ λ k. rw w.self-is refl
    ] in
    let same : node_at c.args.self.now k ≡ present_of (at c.reserve.new.self k) = ap (λ (v : ForestView). node_at v k) (sym c.self.view_is) ∙ ap (λ (s : List (Option SlotEntry)). present_of (slot s k)) (sym c.in_ok-reserve.ensures.slots) in
    let x = is_there (present_of (at c.replace-changed.new.store k)) (ap is_some (sym (now k)) ∙ t) in
    ap (λ (v : ForestView). marked_at v k) (sym c.self.view_is) ∙ ap (λ (s : List (Option SlotEntry)). marked_of (slot s k)) (sym c.in_ok-reserve.ensures.slots) ∙ ap marked_of (c.replace-changed.ensures.vacant k x.0 (sym same ∙ h) x.1)

pub returns-clause-numbers : goal.returns-clause-numbers
returns-clause-numbers c on k =
    let yes : c.self.inside.marking ≡ true = ap (λ (v : ForestView). v.marking) c.self.view_is ∙ on in
    let now : slot_at c.if-not-self.self k ≡ at c.replace-changed.new.store k = elim c.if-not-self.branch [
      | then-not-self w ↦ absurd (let no = w.if-not-self.true in cc)
      | else-not-self w ↦ rw w.self-is refl
    ] in
    let old : slot_at c.args.self.now k ≡ at c.reserve.new.self k = ap (λ (v : ForestView). slot_at v k) (sym c.self.view_is) ∙ ap (λ (s : List (Option SlotEntry)). slot s k) (sym c.in_ok-reserve.ensures.slots) in
    subst (λ (s : Option SlotEntry). StaysTaken s (slot_at c.if-not-self.self k)) (sym old) (subst (λ (s : Option SlotEntry). StaysTaken (at c.reserve.new.self k) s) (sym now) (c.replace-changed.ensures.taken k))
