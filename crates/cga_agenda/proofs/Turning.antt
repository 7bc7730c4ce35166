-- A turn keeps what holds between turns.
use Rattle.std.proofs.Common.{◌≡◌, ℕ, zero, suc, List, ◌∷◌, Bool, true, false, refl, sym, ap, ◌∙◌, subst, ◌⊎◌, inl, inr}
use Rattle.cga_order.specs.Chain.{IsChild}
use Rattle.cga_order.specs.Stamp.{stamps_cmp}
use Rattle.cga_order.specs.World.{World, Among, is_waiting, is_instance, place_of, stamp_of, birth_of, IsEarlier}
use Rattle.cga_order.specs.declared.placed.Kind.{Kind}
use Rattle.cga_order.specs.declared.placed.Kind.TheVariants.{Waiting}
use Rattle.cga_order.specs.Agenda.{Node, members_of, Keeps, IsSettled, Created, Remains, IsTurn}
use Rattle.cga_order.proofs.Door.{Has-Keeps, birth-stamp, place_dec, stamp-child, still_right}
use Rattle.std.proofs.lemmas.Bool.{cases_Bool as either}
use Rattle.cga_order.proofs.Door as stamps
use Rattle.cga_agenda.specs.Edit.{Edit, IsEdit, old_world, new_world, NonInstance, KeptAt, Kept}
use Rattle.cga_order.specs.Once.{Once}
use Rattle.cga_agenda.specs.Work.{next_worked, IsFresh, Expands, Places, IsTurnOf, IsReworked, IsOld, IsWorking, IsStart}
use Rattle.cga_agenda.proofs.Working.{path_not_empty, Keeps-NonInstance, NonInstance-Keeps, ChildrenFrom, ChildrenTo}
use Rattle.cga_agenda.proofs.Working.{still_settled, same_children, waiting_is, settled_done, new_not, kept_new}
use Rattle.cga_agenda.proofs.Working.{order, was_right, one_kind, one_kind_old, parents_same, root_no_child, placed}

module _ {N A B F P : Type 0} (edit : Edit N A B F P) (laws : IsEdit edit) (start : List (Node N A F P))
    (started : IsStart edit start) (before after : List (Node N A F P)) (s : N) (queued requeued : N → Bool)
    (turned worked : List N) (expanded : Bool) (good : IsWorking edit start before queued turned worked)
    (turn : IsTurnOf edit before after s queued requeued expanded) where
  abbrev Nodes : Type 0
  Nodes = List (Node N A F P)

  abbrev w : World N A F P
  w = new_world edit

  abbrev reworked : List N
  reworked = next_worked s expanded worked

  pub told_true : expanded ≡ true → next_worked s expanded worked ≡ s ∷ worked
  told_true e = ap (λ b. next_worked s b worked) e

  pub told_false : expanded ≡ false → next_worked s expanded worked ≡ worked
  told_false e = ap (λ b. next_worked s b worked) e

  not_self : (n : N) → IsEarlier w (stamp_of w n) (stamp_of w n) → ⊥
  not_self n e = stamps.not_self (stamps_cmp edit.mode) (order edit laws start started) (stamp_of w n) e

  pub turned_before : (t : N) → Among t turned → IsEarlier w (stamp_of w t) (stamp_of w s)
  turned_before t i = good.later t i s turn.was.0 turn.was.1 turn.was.2 turn.next.there

  pub not_turned : Among s turned → ⊥
  not_turned i = not_self s (turned_before s i)

  pub not_worked : Among s worked → ⊥
  not_worked i = not_turned (good.expanded s i).0

  -- what was made before the stamp of s remains
  pub remains_early : (m : N) (k : Kind F P) (a : A) → Keeps before m k a → IsEarlier w (birth_of w m) (stamp_of w s)
      → Remains w after m k
  remains_early m k a h e = elim (turn.to m k a h) [ inl r ↦ r | inr removed ↦ absurd (removed.late e) ]

  s_after : Remains w after s turn.was.0
  s_after = remains_early s turn.was.0 turn.was.1 turn.was.2 (birth-stamp edit.mode (edit.chain s))

  pub alone : (n : N) (k : Kind F P) (a : A) → Keeps after n k a → place_of w n ≡ place_of w s → n ≡ s
  alone n k a h e = (turn.tree.distinct n s k s_after.0 a s_after.1 h s_after.2 e).0

  -- a node is s, or stayed, or came
  pub where_from : (m : N) (k : Kind F P) (a : A) → Keeps after m k a
      → (m ≡ s) ⊎
      (((m ≡ s) → ⊥) × (Keeps before m k a ⊎ (Created w after s m k requeued × IsFresh edit before after m k)))
  where_from m k a h = elim (place_dec w m s) [
    | inl same ↦ inl (alone m k a h same)
    | inr apart ↦ let d : m ≡ s → ⊥ = λ e. apart (ap (place_of w) e) in inr (d, turn.from m k a h d)
  ]

  -- a node that stays is as it was
  pub as_it_was : (m : N) (k j : Kind F P) (a b : A) → ((m ≡ s) → ⊥) → Keeps before m k a → Keeps after m j b
      → is_instance k ≡ is_instance j → (is_instance j ≡ true → k ≡ j) → Keeps before m j b
  as_it_was m k j a b d h g i same = elim (turn.from m j b g d) [ inl x ↦ x | inr c ↦ absurd (c.1.not_there k a h i same) ]

  from_children : (n : N) (k : Kind F P) (a : A) → Keeps after n k a → (n ≡ s → ⊥) → (ChildrenFrom edit) before after n
  from_children n k a h d c j b i child g = elim (where_from c j b g) [
    | inl e ↦ (turn.was.0, turn.was.1, subst (λ x. Keeps before x turn.was.0 turn.was.1) (sym e) turn.was.2)
    | inr r ↦ elim r.1 [
      | inl old ↦ (j, b, old)
      | inr created ↦ absurd (d (alone n k a h ((parents_same edit laws start started) n s c i created.0.0.0 child created.0.0.1)))
    ]
  ]

  to_children : (n : N) (k : Kind F P) (a : A) → Keeps before n k a → Keeps after n k a → (n ≡ s → ⊥)
      → (ChildrenTo edit) before after n
  to_children n k a h g d c j b i child there = elim (turn.to c j b there) [
    | inl r ↦ r
    | inr removed ↦ elim (removed.below n i child) [
      | inl same ↦ absurd (d (alone n k a g same))
      | inr gone ↦ absurd (gone k a h g)
    ]
  ]

  abbrev KeptBefore : N → Type 0
  KeptBefore n = Kept edit (members_of start) (members_of before) n

  abbrev KeptAfter : N → Type 0
  KeptAfter n = Kept edit (members_of start) (members_of after) n

  -- the old outcome settles s before its turn, where it doesn't wait
  pub s_old : is_waiting turn.was.0 ≡ false → IsOld edit start before queued turned s turn.was.0 turn.was.1
  s_old done = elim (good.others s turn.was.0 turn.was.1 turn.was.2 turn.was.3 done) [ inl i ↦ absurd (not_worked i) | inr o ↦ o ]

  pub s_settled : is_waiting turn.was.0 ≡ false
      → IsSettled (old_world edit) before s turn.was.0 (edit.old.expand s turn.was.1)
  s_settled done = elim (s_old done).children [ inl t ↦ absurd (not_turned t) | inr h ↦ h ]

  -- a child that s had in the old list, where s is kept, was there before
  kept_child : KeptBefore s → (c : N) (i : ℕ) → IsChild (edit.chain s) i (edit.chain c)
      → NonInstance (members_of start) c → NonInstance (members_of before) c
  kept_child kept c i child is = elim (either (is_waiting turn.was.0)) [
    | inl e ↦ absurd (good.waiting s turn.was.0 turn.was.1 turn.was.2 ((waiting_is edit) turn.was.0 e) kept)
    | inr e ↦
        let old = s_old e in
        (same_children edit) edit.old start before s c turn.was.0 turn.was.0 i (edit.old.expand s turn.was.1)
        ((one_kind_old edit laws start started) c) child ((was_right edit laws start started) s turn.was.0
        turn.was.1 old.same turn.was.3).1 (s_settled e) is
  ]

  -- what is kept after the turn was there before it
  pub not_fresh : (m : N) (k : Kind F P) → IsFresh edit before after m k → is_instance k ≡ false
      → NonInstance (members_of before) m → ⊥
  not_fresh m k fresh i is = let u = (NonInstance-Keeps edit) before m is in fresh.not_there u.0 u.1 u.2 (u.3 ∙ sym i) (λ e. let x : true ≡ false = sym e ∙ i in cc)

  back : (n : N) → NonInstance (members_of after) n
      → ((i : ℕ) → IsChild (edit.chain s) i (edit.chain n) → NonInstance (members_of before) n)
      → NonInstance (members_of before) n
  back n is child =
      let u = (NonInstance-Keeps edit) after n is in
      elim (where_from n u.0 u.1 u.2) [
        | inl e ↦ (Keeps-NonInstance edit) before n turn.was.0 turn.was.1 (subst (λ x. Keeps before x turn.was.0 turn.was.1) (sym e) turn.was.2) turn.was.3
        | inr r ↦ elim r.1 [ inl old ↦ (Keeps-NonInstance edit) before n u.0 u.1 old u.3 | inr created ↦ child created.0.0.0 created.0.0.1 ]
      ]

  back_at : (depth : ℕ) (n : N) → KeptAt edit (members_of start) (members_of after) depth n
      → KeptAt edit (members_of start) (members_of before) depth n
  back_at zero n h = (h.0, back n h.1 (λ i child. absurd (path_not_empty (edit.chain s).path i (sym child.path ∙ h.2))), h.2)
  back_at (suc depth) n h =
      let p = h.2 in
      let up = back_at depth p.0 p.3 in
      let there = (NonInstance-Keeps edit) after p.0 ((kept_new edit) (members_of start) (members_of after) depth p.0 p.3).1 in (
        h.0,
        back n h.1 (λ i child.
            let e = alone p.0 there.0 there.1 there.2 ((parents_same edit laws start started) p.0 s n p.1 i p.2 child) in
            kept_child (depth, subst (KeptAt edit (members_of start) (members_of before) depth) e up) n i child h.0),
        (p.0, p.1, p.2, up),
      )

  pub kept_back : (n : N) → KeptAfter n → KeptBefore n
  kept_back n h = (h.0, back_at h.0 n h.1)

  -- what is kept before the turn, and still there, is kept after it
  on_at : (depth : ℕ) (n : N) → KeptAt edit (members_of start) (members_of before) depth n
      → NonInstance (members_of after) n → KeptAt edit (members_of start) (members_of after) depth n
  on_at zero n h is = (h.0, is, h.2)
  on_at (suc depth) n h is =
      let p = h.2 in
      let u = (NonInstance-Keeps edit) after n is in
      let was = (NonInstance-Keeps edit) before p.0 ((kept_new edit) (members_of start) (members_of before) depth p.0 p.3).1 in
      elim (turn.tree.under n u.0 u.1 u.2) [
        | inl root ↦ absurd ((root_no_child edit laws start started) n p.0 p.1 root p.2)
        | inr q ↦
            let same = (parents_same edit laws start started) q.0 p.0 n q.3 p.1 q.6 p.2 in
            let there : NonInstance (members_of after) p.0 = elim (where_from q.0 q.1 q.2 q.4) [
              | inl e ↦
                  let is = (good.tree.distinct s p.0 turn.was.0 was.0 turn.was.1 was.1 turn.was.2 was.2 (sym (ap (place_of w) e) ∙ same)).0 in
                  subst (NonInstance (members_of after)) (e ∙ is) ((Keeps-NonInstance edit) after q.0 q.1 q.2 q.4 q.5)
              | inr r ↦ elim r.1 [
                | inl old ↦
                    let is = (good.tree.distinct q.0 p.0 q.1 was.0 q.2 was.1 old was.2 same).0 in
                    subst (NonInstance (members_of after)) is ((Keeps-NonInstance edit) after q.0 q.1 q.2 q.4 q.5)
                | inr created ↦ absurd (created.1.bare q.3 n u.0 u.1 q.6 u.2)
              ]
            ] in
            (h.0, is, (p.0, p.1, p.2, on_at depth p.0 p.3 there))
      ]

  pub kept_on : (n : N) → KeptBefore n → NonInstance (members_of after) n → KeptAfter n
  kept_on n h is = (h.0, on_at h.0 n h.1 is)

  -- the turn is one of cga_order's
  pub is_turn : IsTurn w before after s queued requeued
  is_turn = record {
    was = (turn.was.0, turn.was.1, turn.was.2, turn.was.3);
    now = λ k a h. elim turn.was.4 [
      | inl x ↦ x.1.now k a h
      | inr x ↦
          let same = x.1.still k a h in
          let settled = subst (IsSettled w after s turn.was.0) (sym (laws.outcome s turn.was.1 x.1.setting))
          ((placed edit laws start started) before after s turn.was.0 turn.was.1 good.tree x.1.children (s_settled x.1.done)) in (
            ap is_instance same.0 ∙ turn.was.3,
            same.1 ∙ x.1.asks,
            subst (λ b. IsSettled w after s k (edit.new.expand s b)) (sym same.1) (subst (λ j. IsSettled w after s j (edit.new.expand s turn.was.1)) (sym same.0) settled),
          )
    ];
    alone = alone;
    from = λ m k a h d. elim (turn.from m k a h d) [ inl old ↦ inl old | inr created ↦ inr created.0 ];
    to = turn.to;
    queued_still = turn.queued_still;
  }

  after_s : (m : N) (k : Kind F P) (a : A) → Keeps after m k a → requeued m ≡ true
      → IsEarlier w (stamp_of w s) (stamp_of w m)
  after_s m k a h q = elim (turn.queues_only m k a h q) [
    | inl x ↦ turn.next.first m k a x.0 x.1 x.2
    | inr r ↦ elim r [ inl c ↦ stamp-child edit.mode (edit.chain s) c.0 (edit.chain m) (laws.new.whole s) c.1 | inr e ↦ e ]
  ]

  pub still_worked : (n : N) → Among n worked → Among n reworked
  still_worked n i = elim turn.was.4 [
    | inl x ↦ subst (Among n) (sym (told_true x.0)) (inr i)
    | inr x ↦ subst (Among n) (sym (told_false x.0)) i
  ]

  -- what had its turn is there after the turn, and was so before
  pub turned_stays : (x : N) → Among x turned
      → ((k : Kind F P) × (a : A) × Keeps after x k a × (is_instance k ≡ false)) × ((x ≡ s) → ⊥)
      × ((k : Kind F P) (a : A) → Keeps after x k a → Keeps before x k a)
  turned_stays x i =
      let g = good.stays x i in
      let d : x ≡ s → ⊥ = λ e. not_turned (subst (λ y. Among y turned) e i) in
      let early = (order edit laws start started).trans (birth_of w x) (stamp_of w x) (stamp_of w s) (birth-stamp edit.mode (edit.chain x)) (turned_before x i) in
      let r = remains_early x g.0 g.1 g.2 early in (
        (r.0, r.1, r.2, r.3 ∙ g.3),
        d,
        λ k a h.
            let one = (one_kind edit laws start started) after turn.tree x k r.0 (Has-Keeps after x k a h) (Has-Keeps after x r.0 r.1 r.2) in
            as_it_was x g.0 k g.1 a d g.2 h (sym r.3 ∙ sym (ap is_instance one)) (λ e. let y : true ≡ false = sym e ∙ (ap is_instance one ∙ (r.3 ∙ g.3)) in cc),
      )

  next_stays : (t : N) → Among t (s ∷ turned) → (k : Kind F P) × (a : A) × Keeps after t k a × (is_instance k ≡ false)
  next_stays t i = elim i [
    | inl e ↦ subst (λ y. (k : Kind F P) × (a : A) × Keeps after y k a × (is_instance k ≡ false)) e (s_after.0, s_after.1, s_after.2, s_after.3 ∙ turn.was.3)
    | inr j ↦ (turned_stays t j).0
  ]

  reworked_on : (x : N) (k : Kind F P) (a : A) → Keeps after x k a → IsReworked edit start before x k a
      → IsReworked edit start after x k a
  reworked_on x k a h was = (
    was.0,
    elim was.1 [
      | inl never ↦ inl (λ kept. never (kept_back x kept))
      | inr other ↦ inr (kept_on x other.0 ((Keeps-NonInstance edit) after x k a h was.0), other.1)
    ],
  )

  abbrev WasExpanded : N → Type 0
  WasExpanded x = Among x (s ∷ turned) × ((k : Kind F P) (a : A) → Keeps after x k a → IsReworked edit start after x k a)

  old_expanded : (x : N) → Among x worked → WasExpanded x
  old_expanded x i =
      let g = good.expanded x i in
      (inr g.0, λ k a h. reworked_on x k a h (g.1 k a ((turned_stays x g.0).2 k a h)))

  s_reworked : Expands edit before after s turn.was.0 turn.was.1 → (k : Kind F P) (a : A) → Keeps after s k a
      → IsReworked edit start after s k a
  s_reworked x k a h =
      let now = x.now k a h in (
        now.0,
        elim (either (is_waiting turn.was.0)) [
          | inl e ↦ inl (λ kept. good.waiting s turn.was.0 turn.was.1 turn.was.2 ((waiting_is edit) turn.was.0 e) (kept_back s kept))
          | inr e ↦
              let old = s_old e in
              let asks = ((was_right edit laws start started) s turn.was.0 turn.was.1 old.same turn.was.3).0 in
              inr (
                kept_on s old.kept ((Keeps-NonInstance edit) after s k a h now.0),
                elim x.must [
                  | inl q ↦ (let y : true ≡ false = sym (ap is_waiting q) ∙ e in cc)
                  | inr never ↦ λ same. never (same.0, asks ∙ (same.1 ∙ now.1))
                ],
              )
        ],
      )

  next_once : Once reworked
  next_once = elim turn.was.4 [
    | inl x ↦ subst Once (sym (told_true x.0)) (not_worked, good.once)
    | inr x ↦ subst Once (sym (told_false x.0)) good.once
  ]

  next_expanded : (x : N) → Among x reworked → WasExpanded x
  next_expanded x i = elim turn.was.4 [
    | inl e ↦ elim (subst (Among x) (told_true e.0) i) [
      | inl same ↦ subst WasExpanded same (inl refl, s_reworked e.1)
      | inr old ↦ old_expanded x old
    ]
    | inr p ↦ old_expanded x (subst (Among x) (told_false p.0) i)
  ]

  s_done : (k : Kind F P) (a : A) → Keeps after s k a → is_waiting k ≡ false
  s_done k a h = (settled_done edit) w after s k (edit.new.expand s a) (is_turn.now k a h).2

  next_waiting : (n : N) (k : Kind F P) (a : A) → Keeps after n k a → k ≡ Waiting → KeptAfter n → ⊥
  next_waiting n k a h e kept = elim (where_from n k a h) [
    | inl q ↦ let x : true ≡ false = sym (ap is_waiting e) ∙ s_done k a (subst (λ y. Keeps after y k a) q h) in cc
    | inr r ↦ elim r.1 [
      | inl old ↦ good.waiting n k a old e (kept_back n kept)
      | inr created ↦ not_fresh n k created.1 (ap is_instance e) ((kept_new edit) (members_of start) (members_of before) kept.0 n (back_at kept.0 n kept.1)).1
    ]
  ]

  old_on : (n : N) (k : Kind F P) (a : A) → Keeps before n k a → Keeps after n k a → (n ≡ s → ⊥) → is_instance k ≡ false
      → IsOld edit start before queued turned n k a → IsOld edit start after requeued (s ∷ turned) n k a
  old_on n k a h g d i old = record {
    kept = kept_on n old.kept ((Keeps-NonInstance edit) after n k a g i);
    same = old.same;
    setting = elim old.setting [ inl q ↦ inl (turn.queued_still n k a g i d q) | inr e ↦ inr e ];
    children = elim old.children [
      | inl t ↦ inl (inr t)
      | inr c ↦ inr ((still_settled edit) edit.old laws.old before after n k a (from_children n k a g d) (to_children n k a h g d) c)
    ];
  }

  s_placed : Places edit before after s turn.was.0 turn.was.1 → (k : Kind F P) (a : A) → Keeps after s k a
      → is_instance k ≡ false → IsOld edit start after requeued (s ∷ turned) s k a
  s_placed p k a h i =
      let old = s_old p.done in
      let same = p.still k a h in
      record {
        kept = kept_on s old.kept ((Keeps-NonInstance edit) after s k a h i);
        same = subst (λ b. Keeps start s k b) (sym same.1) (subst (λ j. Keeps start s j turn.was.1) (sym same.0) old.same);
        setting = inr p.setting;
        children = inl (inl refl);
      }

  next_others : (n : N) (k : Kind F P) (a : A) → Keeps after n k a → is_instance k ≡ false → is_waiting k ≡ false
      → Among n reworked ⊎ IsOld edit start after requeued (s ∷ turned) n k a
  next_others n k a h i done = elim (where_from n k a h) [
    | inl e ↦ elim turn.was.4 [
      | inl x ↦ inl (subst (Among n) (sym (told_true x.0)) (inl (sym e)))
      | inr p ↦ inr (subst (λ y. IsOld edit start after requeued (s ∷ turned) y k a) (sym e) (s_placed p.1 k a (subst (λ y. Keeps after y k a) e h) i))
    ]
    | inr r ↦ elim r.1 [
      | inl old ↦ elim (good.others n k a old i done) [
        | inl x ↦ inl (still_worked n x)
        | inr o ↦ inr (old_on n k a old h r.0 i o)
      ]
      | inr created ↦ absurd ((new_not edit) k created.1.new i done)
    ]
  ]

  pub next : IsWorking edit start after requeued (s ∷ turned) reworked
  next = record {
    tree = turn.tree;
    right = still_right w laws.new before after s queued requeued is_turn good.right;
    later = λ t i m k a h q.
        let now = after_s m k a h q in
        elim i [
          | inl e ↦ subst (λ x. IsEarlier w (stamp_of w x) (stamp_of w m)) e now
          | inr j ↦ (order edit laws start started).trans (stamp_of w t) (stamp_of w s) (stamp_of w m) (turned_before t j) now
        ];
    turns_once = (not_turned, good.turns_once);
    stays = next_stays;
    once = next_once;
    expanded = next_expanded;
    waiting = next_waiting;
    others = next_others;
  }
