use Rattle.std.proofs.Common.{refl, ◌≡◌, ◌∙◌, ap, ℕ, ◌+◌, ◌-◌, ◌++◌, sym, length, arith}
use Rattle.cga_forest.specs.Gathered.{coming, found}
use Rattle.cga_forest.specs.NodeChange.{is_listed}
use Rattle.cga_forest.specs.View.{at, flag_if, keeps_former, kids, last_from, present_of}
use Rattle.std.proofs.lemmas.List.{length_push}
use Rattle.cga_forest.proofs.Present.{depth_present, kids_present, path_present, depth_flag, last_push}
use Rattle.cga_forest.specs.Tree.{depth_at}
use Rattle.cga_forest.proofs.Comers.{found_after}
use Rattle.cga_forest.proofs.Place.{same_kids}
use Rattle.cga_forest.proofs.Under.{kids_flag}
use Rattle.cga_forest.proofs.Assemble.{dropped_here, kids_there}
use Rattle.cga_forest.proofs.Assemble.{assembled_slots, still_here, vacant_after, tree_after, places_after, few_after, here_after, depth_after, right_after, mark_after, mark_hulls_after}
use Rattle.cga_forest.proofs.Marks.{IsWhole-from}
use Rattle.cga_forest.proofs.Through.{ReplacedBy-same}
use Rattle.cga_forest.proofs.slots.replace.Goals as goal
use Rattle.cga_forest.proofs.Heads.{top_hulls, top_written}
use Rattle.cga_forest.proofs.Numbers.{kept_taken, taken_replaced}

pub place_children-requires-clause-room : goal.place_children-requires-clause-room
place_children-requires-clause-room c = c.set_aside_all.ensures.room _ c.requires.room

pub place_children-requires-clause-kids : goal.place_children-requires-clause-kids
place_children-requires-clause-kids c = kids_there (λ k. at c.args.store.now k) (λ k. at c.set_aside_all.new.store k) c.args.id c.requires.here.0 c.requires.here.1 c.requires.whole.tree _ c.set_aside_all.ensures.pointwise

pub place_children-requires-clause-paths : goal.place_children-requires-clause-paths
place_children-requires-clause-paths c i w t =
    let f = ap depth_at (c.set_aside_all.ensures.pointwise c.args.id) ∙ depth_flag _ (at c.args.store.now c.args.id) ∙ path_present (at c.args.store.now c.args.id) c.requires.here.0 c.requires.here.1 in
    let b = (c.requires.here.2.children i w t).path in
    (ap length b ∙ length_push c.requires.here.0.node.shape.path i ∙ sym (ap (λ x. x + 1) f), ap (last_from 0) b ∙ last_push 0 c.requires.here.0.node.shape.path i)

pub refresh-requires-clause-tree : goal.refresh-requires-clause-tree
refresh-requires-clause-tree c =
    let d : depth_at (at c.args.store.now c.args.id) ≡ c.requires.here.0.depth = depth_present (at c.args.store.now c.args.id) c.requires.here.0 c.requires.here.1 in
    let f : depth_at (at c.set_aside_all.new.store c.args.id) ≡ depth_at (at c.args.store.now c.args.id) = ap depth_at (c.set_aside_all.ensures.pointwise c.args.id) ∙ depth_flag _ (at c.args.store.now c.args.id) in
    tree_after (λ k. at c.args.store.now k) (λ k. at c.set_aside_all.new.store k) (λ k. at c.place_children.new.store k) (λ k. at c.rewrite.new.store k)
    c.args.id (depth_at (at c.set_aside_all.new.store c.args.id) + 1) (256 - depth_at (at c.args.store.now c.args.id))
    c.args.marking c.place_children.new.made.items c.args.new.news.items c.args.new.state c.requires.here.0
    c.requires.here.1 c.requires.here.2.low (ap (λ x. x + 1) (f ∙ d)) (ap (λ x. 256 - x) d) c.requires.whole
    (λ k. c.set_aside_all.ensures.pointwise k ∙ ap (λ b. flag_if b (at c.args.store.now k)) (ap (λ l. is_listed l k) c.as_slice.ensures.value ∙ c.requires.removed k))
    c.place_children.ensures.placed c.place_children.ensures.length c.rewrite.ensures.others c.rewrite.ensures.present

pub refresh-requires-clause-here : goal.refresh-requires-clause-here
refresh-requires-clause-here c =
    let d : depth_at (at c.args.store.now c.args.id) ≡ c.requires.here.0.depth = depth_present (at c.args.store.now c.args.id) c.requires.here.0 c.requires.here.1 in
    let f : depth_at (at c.set_aside_all.new.store c.args.id) ≡ depth_at (at c.args.store.now c.args.id) = ap depth_at (c.set_aside_all.ensures.pointwise c.args.id) ∙ depth_flag _ (at c.args.store.now c.args.id) in
    here_after (λ k. at c.args.store.now k) (λ k. at c.set_aside_all.new.store k) (λ k. at c.place_children.new.store k) (λ k. at c.rewrite.new.store k)
    c.args.id (depth_at (at c.set_aside_all.new.store c.args.id) + 1) (256 - depth_at (at c.args.store.now c.args.id))
    c.args.marking c.place_children.new.made.items c.args.new.news.items c.args.new.state c.requires.here.0
    c.requires.here.1 c.requires.here.2.low (ap (λ x. x + 1) (f ∙ d)) (ap (λ x. 256 - x) d) c.requires.whole
    (λ k. c.set_aside_all.ensures.pointwise k ∙ ap (λ b. flag_if b (at c.args.store.now k)) (ap (λ l. is_listed l k) c.as_slice.ensures.value ∙ c.requires.removed k))
    c.place_children.ensures.placed c.place_children.ensures.length c.rewrite.ensures.others c.rewrite.ensures.present

pub refresh-requires-clause-right : goal.refresh-requires-clause-right
refresh-requires-clause-right c =
    let d : depth_at (at c.args.store.now c.args.id) ≡ c.requires.here.0.depth = depth_present (at c.args.store.now c.args.id) c.requires.here.0 c.requires.here.1 in
    let f : depth_at (at c.set_aside_all.new.store c.args.id) ≡ depth_at (at c.args.store.now c.args.id) = ap depth_at (c.set_aside_all.ensures.pointwise c.args.id) ∙ depth_flag _ (at c.args.store.now c.args.id) in
    right_after (λ k. at c.args.store.now k) (λ k. at c.set_aside_all.new.store k) (λ k. at c.place_children.new.store k) (λ k. at c.rewrite.new.store k)
    c.args.id (depth_at (at c.set_aside_all.new.store c.args.id) + 1) (256 - depth_at (at c.args.store.now c.args.id))
    c.args.marking c.place_children.new.made.items c.args.new.news.items c.args.new.state c.requires.here.0
    c.requires.here.1 c.requires.here.2.low (ap (λ x. x + 1) (f ∙ d)) (ap (λ x. 256 - x) d) c.requires.whole
    (λ k. c.set_aside_all.ensures.pointwise k ∙ ap (λ b. flag_if b (at c.args.store.now k)) (ap (λ l. is_listed l k) c.as_slice.ensures.value ∙ c.requires.removed k))
    c.place_children.ensures.placed c.place_children.ensures.length c.rewrite.ensures.others c.rewrite.ensures.present c.rewrite.ensures.hulls

pub refresh-requires-clause-spares : goal.refresh-requires-clause-spares
refresh-requires-clause-spares c =
    let d : depth_at (at c.args.store.now c.args.id) ≡ c.requires.here.0.depth = depth_present (at c.args.store.now c.args.id) c.requires.here.0 c.requires.here.1 in
    let f : depth_at (at c.set_aside_all.new.store c.args.id) ≡ depth_at (at c.args.store.now c.args.id) = ap depth_at (c.set_aside_all.ensures.pointwise c.args.id) ∙ depth_flag _ (at c.args.store.now c.args.id) in
    rw (depth_after (λ k. at c.args.store.now k) (λ k. at c.set_aside_all.new.store k) (λ k. at c.place_children.new.store k) (λ k. at c.rewrite.new.store k)
    c.args.id (depth_at (at c.set_aside_all.new.store c.args.id) + 1) (256 - depth_at (at c.args.store.now c.args.id))
    c.args.marking c.place_children.new.made.items c.args.new.news.items c.args.new.state c.requires.here.0
    c.requires.here.1 c.requires.here.2.low (ap (λ x. x + 1) (f ∙ d)) (ap (λ x. 256 - x) d) c.requires.whole
    (λ k. c.set_aside_all.ensures.pointwise k ∙ ap (λ b. flag_if b (at c.args.store.now k)) (ap (λ l. is_listed l k) c.as_slice.ensures.value ∙ c.requires.removed k))
    c.place_children.ensures.placed c.place_children.ensures.length c.rewrite.ensures.others c.rewrite.ensures.present) c.requires.spares

pub returns-clause-whole : goal.returns-clause-whole
returns-clause-whole c =
    let d : depth_at (at c.args.store.now c.args.id) ≡ c.requires.here.0.depth = depth_present (at c.args.store.now c.args.id) c.requires.here.0 c.requires.here.1 in
    let f : depth_at (at c.set_aside_all.new.store c.args.id) ≡ depth_at (at c.args.store.now c.args.id) = ap depth_at (c.set_aside_all.ensures.pointwise c.args.id) ∙ depth_flag _ (at c.args.store.now c.args.id) in
    IsWhole-from (λ k. present_of (at c.rewrite.new.store k)) _ _ c.refresh.ensures.present c.refresh.ensures.right (places_after (λ k. at c.args.store.now k) (λ k. at c.set_aside_all.new.store k) (λ k. at c.place_children.new.store k) (λ k. at c.rewrite.new.store k)
    c.args.id (depth_at (at c.set_aside_all.new.store c.args.id) + 1) (256 - depth_at (at c.args.store.now c.args.id))
    c.args.marking c.place_children.new.made.items c.args.new.news.items c.args.new.state c.requires.here.0
    c.requires.here.1 c.requires.here.2.low (ap (λ x. x + 1) (f ∙ d)) (ap (λ x. 256 - x) d) c.requires.whole
    (λ k. c.set_aside_all.ensures.pointwise k ∙ ap (λ b. flag_if b (at c.args.store.now k)) (ap (λ l. is_listed l k) c.as_slice.ensures.value ∙ c.requires.removed k))
    c.place_children.ensures.placed c.place_children.ensures.length c.rewrite.ensures.others
    c.rewrite.ensures.present c.requires.here.2) (tree_after (λ k. at c.args.store.now k) (λ k. at c.set_aside_all.new.store k) (λ k. at c.place_children.new.store k) (λ k. at c.rewrite.new.store k)
    c.args.id (depth_at (at c.set_aside_all.new.store c.args.id) + 1) (256 - depth_at (at c.args.store.now c.args.id))
    c.args.marking c.place_children.new.made.items c.args.new.news.items c.args.new.state c.requires.here.0
    c.requires.here.1 c.requires.here.2.low (ap (λ x. x + 1) (f ∙ d)) (ap (λ x. 256 - x) d) c.requires.whole
    (λ k. c.set_aside_all.ensures.pointwise k ∙ ap (λ b. flag_if b (at c.args.store.now k)) (ap (λ l. is_listed l k) c.as_slice.ensures.value ∙ c.requires.removed k))
    c.place_children.ensures.placed c.place_children.ensures.length c.rewrite.ensures.others
    c.rewrite.ensures.present) (few_after (λ k. at c.args.store.now k) (λ k. at c.set_aside_all.new.store k) (λ k. at c.place_children.new.store k) (λ k. at c.rewrite.new.store k)
    c.args.id (depth_at (at c.set_aside_all.new.store c.args.id) + 1) (256 - depth_at (at c.args.store.now c.args.id))
    c.args.marking c.place_children.new.made.items c.args.new.news.items c.args.new.state c.requires.here.0
    c.requires.here.1 c.requires.here.2.low (ap (λ x. x + 1) (f ∙ d)) (ap (λ x. 256 - x) d) c.requires.whole
    (λ k. c.set_aside_all.ensures.pointwise k ∙ ap (λ b. flag_if b (at c.args.store.now k)) (ap (λ l. is_listed l k) c.as_slice.ensures.value ∙ c.requires.removed k))
    c.place_children.ensures.placed c.place_children.ensures.length c.rewrite.ensures.others
    c.rewrite.ensures.present c.requires.here.2.few)

pub returns-clause-replaced : goal.returns-clause-replaced
returns-clause-replaced c =
    let d : depth_at (at c.args.store.now c.args.id) ≡ c.requires.here.0.depth = depth_present (at c.args.store.now c.args.id) c.requires.here.0 c.requires.here.1 in
    let f : depth_at (at c.set_aside_all.new.store c.args.id) ≡ depth_at (at c.args.store.now c.args.id) = ap depth_at (c.set_aside_all.ensures.pointwise c.args.id) ∙ depth_flag _ (at c.args.store.now c.args.id) in
    ReplacedBy-same (λ k. present_of (at c.args.store.now k)) (λ k. present_of (at c.rewrite.new.store k)) _ _ c.args.id c.args.new.state c.args.new.news.items _ (λ k. refl) c.refresh.ensures.present (
      c.requires.here.0,
      c.place_children.new.made.items,
      (assembled_slots (λ k. at c.args.store.now k) (λ k. at c.set_aside_all.new.store k) (λ k. at c.place_children.new.store k) (λ k. at c.rewrite.new.store k)
          c.args.id (depth_at (at c.set_aside_all.new.store c.args.id) + 1) (256 - depth_at (at c.args.store.now c.args.id))
          c.args.marking c.place_children.new.made.items c.args.new.news.items c.args.new.state c.requires.here.0
          c.requires.here.1 c.requires.here.2.low (ap (λ x. x + 1) (f ∙ d)) (ap (λ x. 256 - x) d) c.requires.whole
          (λ k. c.set_aside_all.ensures.pointwise k ∙ ap (λ b. flag_if b (at c.args.store.now k)) (ap (λ l. is_listed l k) c.as_slice.ensures.value ∙ c.requires.removed k))
          c.place_children.ensures.placed c.place_children.ensures.length c.rewrite.ensures.others c.rewrite.ensures.present),
    )

pub returns-clause-vacant : goal.returns-clause-vacant
returns-clause-vacant c k x h t =
    let d : depth_at (at c.args.store.now c.args.id) ≡ c.requires.here.0.depth = depth_present (at c.args.store.now c.args.id) c.requires.here.0 c.requires.here.1 in
    let f : depth_at (at c.set_aside_all.new.store c.args.id) ≡ depth_at (at c.args.store.now c.args.id) = ap depth_at (c.set_aside_all.ensures.pointwise c.args.id) ∙ depth_flag _ (at c.args.store.now c.args.id) in
    vacant_after (λ k. at c.args.store.now k) (λ k. at c.set_aside_all.new.store k) (λ k. at c.place_children.new.store k) (λ k. at c.rewrite.new.store k)
    c.args.id (depth_at (at c.set_aside_all.new.store c.args.id) + 1) (256 - depth_at (at c.args.store.now c.args.id))
    c.args.marking c.place_children.new.made.items c.args.new.news.items c.args.new.state c.requires.here.0
    c.requires.here.1 c.requires.here.2.low (ap (λ x. x + 1) (f ∙ d)) (ap (λ x. 256 - x) d) c.requires.whole
    (λ k. c.set_aside_all.ensures.pointwise k ∙ ap (λ b. flag_if b (at c.args.store.now k)) (ap (λ l. is_listed l k) c.as_slice.ensures.value ∙ c.requires.removed k))
    c.place_children.ensures.placed c.place_children.ensures.length c.rewrite.ensures.others c.rewrite.ensures.present k x h (sym (c.refresh.ensures.present k) ∙ t)

pub returns-clause-marked : goal.returns-clause-marked
returns-clause-marked c on k =
    let d : depth_at (at c.args.store.now c.args.id) ≡ c.requires.here.0.depth = depth_present (at c.args.store.now c.args.id) c.requires.here.0 c.requires.here.1 in
    let f : depth_at (at c.set_aside_all.new.store c.args.id) ≡ depth_at (at c.args.store.now c.args.id) = ap depth_at (c.set_aside_all.ensures.pointwise c.args.id) ∙ depth_flag _ (at c.args.store.now c.args.id) in
    let still = still_here (λ k. at c.args.store.now k) (λ k. at c.set_aside_all.new.store k) (λ k. at c.place_children.new.store k) (λ k. at c.rewrite.new.store k)
    c.args.id (depth_at (at c.set_aside_all.new.store c.args.id) + 1) (256 - depth_at (at c.args.store.now c.args.id))
    c.args.marking c.place_children.new.made.items c.args.new.news.items c.args.new.state c.requires.here.0
    c.requires.here.1 c.requires.here.2.low (ap (λ x. x + 1) (f ∙ d)) (ap (λ x. 256 - x) d) c.requires.whole
    (λ k. c.set_aside_all.ensures.pointwise k ∙ ap (λ b. flag_if b (at c.args.store.now k)) (ap (λ l. is_listed l k) c.as_slice.ensures.value ∙ c.requires.removed k))
    c.place_children.ensures.placed c.place_children.ensures.length c.rewrite.ensures.others c.rewrite.ensures.present in
    c.refresh.ensures.marked k ∙ mark_after (λ k. at c.args.store.now k) (λ k. at c.set_aside_all.new.store k) (λ k. at c.place_children.new.store k) (λ k. at c.rewrite.new.store k)
    c.args.id (depth_at (at c.set_aside_all.new.store c.args.id) + 1) (256 - depth_at (at c.args.store.now c.args.id))
    c.args.marking c.place_children.new.made.items c.args.new.news.items c.args.new.state c.requires.here.0
    c.requires.here.1 c.requires.here.2.low (ap (λ x. x + 1) (f ∙ d)) (ap (λ x. 256 - x) d) c.requires.whole
    (λ k. c.set_aside_all.ensures.pointwise k ∙ ap (λ b. flag_if b (at c.args.store.now k)) (ap (λ l. is_listed l k) c.as_slice.ensures.value ∙ c.requires.removed k))
    c.place_children.ensures.placed c.place_children.ensures.length c.rewrite.ensures.others c.rewrite.ensures.present on (c.rewrite.ensures.marked on (λ h. c.requires.spare (ap (keeps_former c.args.marking) (sym still) ∙ h))) c.rewrite.ensures.marked_hulls k

pub returns-clause-marked_hulls : goal.returns-clause-marked_hulls
returns-clause-marked_hulls c on k =
    let d : depth_at (at c.args.store.now c.args.id) ≡ c.requires.here.0.depth = depth_present (at c.args.store.now c.args.id) c.requires.here.0 c.requires.here.1 in
    let f : depth_at (at c.set_aside_all.new.store c.args.id) ≡ depth_at (at c.args.store.now c.args.id) = ap depth_at (c.set_aside_all.ensures.pointwise c.args.id) ∙ depth_flag _ (at c.args.store.now c.args.id) in
    let still = still_here (λ k. at c.args.store.now k) (λ k. at c.set_aside_all.new.store k) (λ k. at c.place_children.new.store k) (λ k. at c.rewrite.new.store k)
    c.args.id (depth_at (at c.set_aside_all.new.store c.args.id) + 1) (256 - depth_at (at c.args.store.now c.args.id))
    c.args.marking c.place_children.new.made.items c.args.new.news.items c.args.new.state c.requires.here.0
    c.requires.here.1 c.requires.here.2.low (ap (λ x. x + 1) (f ∙ d)) (ap (λ x. 256 - x) d) c.requires.whole
    (λ k. c.set_aside_all.ensures.pointwise k ∙ ap (λ b. flag_if b (at c.args.store.now k)) (ap (λ l. is_listed l k) c.as_slice.ensures.value ∙ c.requires.removed k))
    c.place_children.ensures.placed c.place_children.ensures.length c.rewrite.ensures.others c.rewrite.ensures.present in
    c.refresh.ensures.marked_hulls on k ∙ mark_hulls_after (λ k. at c.args.store.now k) (λ k. at c.set_aside_all.new.store k) (λ k. at c.place_children.new.store k) (λ k. at c.rewrite.new.store k)
    c.args.id (depth_at (at c.set_aside_all.new.store c.args.id) + 1) (256 - depth_at (at c.args.store.now c.args.id))
    c.args.marking c.place_children.new.made.items c.args.new.news.items c.args.new.state c.requires.here.0
    c.requires.here.1 c.requires.here.2.low (ap (λ x. x + 1) (f ∙ d)) (ap (λ x. 256 - x) d) c.requires.whole
    (λ k. c.set_aside_all.ensures.pointwise k ∙ ap (λ b. flag_if b (at c.args.store.now k)) (ap (λ l. is_listed l k) c.as_slice.ensures.value ∙ c.requires.removed k))
    c.place_children.ensures.placed c.place_children.ensures.length c.rewrite.ensures.others c.rewrite.ensures.present on (c.rewrite.ensures.marked on (λ h. c.requires.spare (ap (keeps_former c.args.marking) (sym still) ∙ h))) c.rewrite.ensures.marked_hulls k

pub returns-clause-taken : goal.returns-clause-taken
returns-clause-taken c =
    taken_replaced (λ k. at c.args.store.now k) (λ k. at c.refresh.new.store k)
    (kept_taken (λ k. at c.args.store.now k) (λ k. at c.set_aside_all.new.store k) (λ k. at c.place_children.new.store k) (λ k. at c.rewrite.new.store k) (λ k. at c.refresh.new.store k)
    c.args.id _
    c.args.marking _ c.args.new.news.items c.place_children.new.made.items _ (record {
      cut = c.set_aside_all.ensures.pointwise;
      placing = c.place_children.ensures.placed;
      others = c.rewrite.ensures.others;
      here = c.rewrite.ensures.hulls;
      all = c.refresh.ensures.taken;
    }))
    (returns-clause-vacant c)

pub returns-clause-others : goal.returns-clause-others
returns-clause-others c k d t top n =
    c.refresh.ensures.others k (top_written (λ i. at c.args.store.now i) (λ i. at c.set_aside_all.new.store i) (λ i. at c.place_children.new.store i) (λ i. at c.rewrite.new.store i)
    c.args.id _
    c.args.marking _ c.args.new.news.items c.place_children.new.made.items c.args.new.state _ c.set_aside_all.ensures.pointwise c.place_children.ensures.placed c.rewrite.ensures.others c.rewrite.ensures.present c.rewrite.ensures.hulls k d t top) n
    ∙ top_hulls (λ i. at c.args.store.now i) (λ i. at c.set_aside_all.new.store i) (λ i. at c.place_children.new.store i) (λ i. at c.rewrite.new.store i)
    c.args.id _
    c.args.marking _ c.args.new.news.items c.place_children.new.made.items c.args.new.state _ c.set_aside_all.ensures.pointwise c.place_children.ensures.placed c.rewrite.ensures.others c.rewrite.ensures.present c.rewrite.ensures.hulls k d t

pub list_coming-requires : goal.list_coming-requires
list_coming-requires c = record { room = (let l = c.place_children.ensures.length in let r = c.requires.listed in omega arith) }

pub returns-clause-created : goal.returns-clause-created
returns-clause-created c =
    let old = λ (k : ℕ). at c.args.store.now k in
    let cut = λ (k : ℕ). at c.set_aside_all.new.store k in
    let placed = λ (k : ℕ). at c.place_children.new.store k in
    let now = λ (k : ℕ). at c.refresh.new.store k in
    let id = c.args.id in
    let made = c.place_children.new.made.items in
    let news = c.args.new.news.items in
    let depth = depth_at (cut id) + 1 in
    let here = dropped_here old cut id c.requires.here.0 c.requires.here.1 c.requires.whole.tree _ c.set_aside_all.ensures.pointwise in
    let olds : kids (placed id) ≡ kids (old id) = same_kids cut placed id depth c.args.marking (kids (cut id)) news made c.place_children.ensures.placed here ∙ ap kids (c.set_aside_all.ensures.pointwise id) ∙ kids_flag _ (old id) in
    let d : depth_at (at c.args.store.now c.args.id) ≡ c.requires.here.0.depth = depth_present (at c.args.store.now c.args.id) c.requires.here.0 c.requires.here.1 in
    let f : depth_at (at c.set_aside_all.new.store c.args.id) ≡ depth_at (at c.args.store.now c.args.id) = ap depth_at (c.set_aside_all.ensures.pointwise c.args.id) ∙ depth_flag _ (at c.args.store.now c.args.id) in
    let replaced = assembled_slots (λ k. at c.args.store.now k) (λ k. at c.set_aside_all.new.store k) (λ k. at c.place_children.new.store k) (λ k. at c.rewrite.new.store k)
    c.args.id (depth_at (at c.set_aside_all.new.store c.args.id) + 1) (256 - depth_at (at c.args.store.now c.args.id))
    c.args.marking c.place_children.new.made.items c.args.new.news.items c.args.new.state c.requires.here.0
    c.requires.here.1 c.requires.here.2.low (ap (λ x. x + 1) (f ∙ d)) (ap (λ x. 256 - x) d) c.requires.whole
    (λ k. c.set_aside_all.ensures.pointwise k ∙ ap (λ b. flag_if b (at c.args.store.now k)) (ap (λ l. is_listed l k) c.as_slice.ensures.value ∙ c.requires.removed k))
    c.place_children.ensures.placed c.place_children.ensures.length c.rewrite.ensures.others c.rewrite.ensures.present in
    let children : made ≡ kids (now id) = sym (kids_present (now id) _ (c.refresh.ensures.present id ∙ replaced.is)) in
    let still = found_after cut placed id depth c.args.marking news made c.place_children.ensures.placed here now (λ k n. c.refresh.ensures.present k ∙ ap present_of (c.rewrite.ensures.others k n)) in
    c.list_coming.ensures
    ∙ ap (λ l. c.args.plan.now.created.items ++ found placed (coming (kids (placed id)) l (length l))) c.as_slice-2.ensures.value
    ∙ ap (λ l. c.args.plan.now.created.items ++ l) (still ∙ ap (found now) (λ i. coming (olds i) (children i) (length (children i))))
