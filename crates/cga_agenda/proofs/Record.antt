-- The record of change.
use Rattle.std.proofs.Common.{◌≡◌, ℕ, ◌+◌, List, [], ◌∷◌, ◌++◌, map, Bool, true, false, refl, sym, ap, ◌∙◌, subst, ◌⊎◌, inl, inr, Result, Ok, Err, arith}
use Rattle.std.specs.Prelude.{count_by, cond}
use Rattle.std.proofs.lemmas.List.Sums.{sum_by-append}
use Rattle.cga_order.specs.Chain.{IsChild}
use Rattle.cga_order.specs.World.{World, Has, Among, is_waiting, is_instance, place_of, stamp_of, IsEarlier}
use Rattle.cga_order.specs.declared.placed.Placed.{Placed}
use Rattle.cga_order.specs.declared.placed.Kind.{Kind}
use Rattle.cga_order.specs.declared.placed.Kind.TheVariants.{Instance}
use Rattle.cga_order.specs.Agenda.{Node, members_of, Keeps, IsSettled, Remains}
use Rattle.cga_order.proofs.Door.{Among-append, Has-Keeps, Keeps-Has, Once-append, birth-child, place_dec}
use Rattle.cga_agenda.specs.Edit.{Edit, IsEdit, old_world, new_world, renewed, Kept}
use Rattle.cga_agenda.specs.Work.{next_worked, IsBegun, Places, IsTurnOf, IsWorking, IsStart}
use Rattle.cga_agenda.specs.Record.{Drawn, Draws, IsChange, IsMade, IsRecord}
use Rattle.cga_agenda.specs.Exact.{IsExact, IsExactRecord}
use Rattle.cga_agenda.proofs.Lists.{Has-map, map-Has}
use Rattle.cga_agenda.proofs.Working.{NonInstance-Keeps, kept_new, one_kind, placed}
use Rattle.cga_agenda.proofs.Turning.{turned_before, remains_early, alone, where_from, as_it_was, s_settled, kept_back, is_turn, still_worked}
use Rattle.cga_agenda.proofs.Exact.{exact}

told_true : {N : Type 0} (s : N) (worked : List N) (expanded : Bool) → expanded ≡ true
    → next_worked s expanded worked ≡ s ∷ worked
told_true s worked expanded e = ap (λ b. next_worked s b worked) e

-- joined lists have as many elements that pass a test as both have together
pub count_append : {X : Type 0} (test : X → Bool) (xs ys : List X)
    → count_by test (xs ++ ys) ≡ count_by test xs + count_by test ys
count_append test xs ys = sum_by-append (λ x. cond (test x) 1 0) xs ys

module _ {N A B F P : Type 0} (edit : Edit N A B F P) (laws : IsEdit edit) (start : List (Node N A F P)) (started : IsStart edit start) where
  abbrev Nodes : Type 0
  Nodes = List (Node N A F P)

  abbrev w : World N A F P
  w = new_world edit

  module _ (nodes : Nodes) (queued : N → Bool) (begun : IsBegun edit start nodes queued) (gone : List (Drawn N P)) (change : IsChange start nodes gone []) where
    no_parent : (d : Drawn N P) → Draws start d → (Draws nodes d → ⊥) → (q : N) (i : ℕ)
        → IsChild (edit.chain q) i (edit.chain d.shape) → Kept edit (members_of start) (members_of nodes) q → ⊥
    no_parent d was gone q i child kept =
        let both = kept_new edit (members_of start) (members_of nodes) kept.0 q kept.1 in
        let old = NonInstance-Keeps edit start q both.0 in
        let now = NonInstance-Keeps edit nodes q both.1 in
        elim (begun.to d.shape (Instance d.solid) was.0 was.1) [
          | inl stays ↦ gone (was.0, stays)
          | inr removed ↦ elim (begun.from q now.0 now.1 now.2) [
            | inl there ↦ removed.0 q i child now.0 now.1 there now.2
            | inr created ↦ created.3.not_there old.0 old.1 old.2 (old.3 ∙ sym now.3) (λ e. let x : true ≡ false = sym e ∙ now.3 in cc)
          ]
        ]

    pub record_begins : IsRecord edit start nodes [] gone []
    record_begins = record {
      gone_once = change.removed_once;
      come_once = tt;
      each_come = λ d i. absurd i;
      each_gone = λ d i. let g = change.each_removed d i in (g.0, (λ h. absurd (g.1 h)), λ q j child kept. absurd (no_parent d g.0 g.1 q j child kept));
      there = λ d h. elim (begun.from d.shape (Instance d.solid) h.0 h.1) [
        | inl old ↦ inl (h.0, old)
        | inr created ↦ let x : true ≡ false = ap is_instance created.1 in cc
      ];
      balance = change.balance;
    }

  module _ (before after : Nodes) (s : N) (queued requeued : N → Bool) (turned worked : List N) (expanded : Bool)
      (good : IsWorking edit start before queued turned worked) (turn : IsTurnOf edit before after s queued requeued expanded) where
    abbrev reworked : List N
    reworked = next_worked s expanded worked

    -- a child of what was expanded stays
    pub made_stays : (n : N) (k : Kind F P) (a : A) → Keeps before n k a → IsMade edit worked n → Remains w after n k
    made_stays n k a h (x, i, among, child) =
        let birth = birth-child edit.mode (edit.chain x) i (edit.chain n) (laws.new.whole x) child in
        remains_early edit laws start started before after s queued requeued turned worked expanded good turn n k a h
        (subst (λ b. IsEarlier w b (stamp_of w s)) (sym birth) (turned_before edit laws start started before after s queued requeued turned worked expanded good turn x (good.expanded x among).0))

    drawn_stays : (d : Drawn N P) → Draws before d → IsMade edit worked d.shape → Draws after d
    drawn_stays d h made =
        let r = made_stays d.shape (Instance d.solid) h.0 h.1 made in
        (r.1, subst (λ k. Keeps after d.shape k r.1) (r.4 refl) r.2)

    pub made_on : (n : N) → IsMade edit worked n → IsMade edit reworked n
    made_on n (x, i, among, child) = (x, i, still_worked edit laws start started before after s queued requeued turned worked expanded good turn x among, child)

    solid_is : (k : Kind F P) (p : P) (now : Kind F P) → now ≡ Instance p → is_instance now ≡ is_instance k
        → (is_instance k ≡ true → now ≡ k) → k ≡ Instance p
    solid_is k p now e alike same = sym (same (sym alike ∙ ap is_instance e)) ∙ e

    -- where the children of s only get their new priorities, its instances stay, and none comes
    solids_stay : (k : Kind F P) (x : N) (p : P) (i : ℕ) (r : Result (List (Placed N F P)) F)
        → IsChild (edit.chain s) i (edit.chain x) → IsSettled (old_world edit) before s k r
        → IsSettled w after s k (renewed edit.renew r) → Draws before (record { shape = x; solid = p })
        → Draws after (record { shape = x; solid = p })
    solids_stay k x p i (Ok cs) child was now h =
        let m = was.1.only x (Instance p) h.0 h.1 i child in
        let u = was.1.all x m.0 m.1 in
        let is = solid_is m.0 p u.0 (one_kind edit laws start started before good.tree x u.0 (Instance p) u.1 (Has-Keeps before x (Instance p) h.0 h.1)) u.2 u.3 in
        let c : Placed N F P = record { shape = x; kind = Instance p } in
        let same : edit.renew c ≡ c = laws.solids c refl in
        let there = map-Has edit.renew cs c (subst (Has cs x) is m.1) in
        let has : Has (map edit.renew cs) x (Instance p) = subst (λ y. Has (map edit.renew cs) y.shape y.kind) same there in
        let v = now.1.all x (Instance p) has in
        let kept = Keeps-Has after x v.0 v.1 in
        (kept.0, subst (λ j. Keeps after x j kept.0) (v.3 refl) kept.1)
    solids_stay k x p i (Err f) child was now h = absurd (was.1.only x (Instance p) h.0 h.1 i child).1

    solids_were : (k : Kind F P) (x : N) (p : P) (i : ℕ) (r : Result (List (Placed N F P)) F)
        → IsChild (edit.chain s) i (edit.chain x) → IsSettled (old_world edit) before s k r
        → IsSettled w after s k (renewed edit.renew r) → Draws after (record { shape = x; solid = p })
        → Draws before (record { shape = x; solid = p })
    solids_were k x p i (Ok cs) child was now h =
        let m = now.1.only x (Instance p) h.0 h.1 i child in
        let u = now.1.all x m.0 m.1 in
        let is = solid_is m.0 p u.0 (one_kind edit laws start started after turn.tree x u.0 (Instance p) u.1 (Has-Keeps after x (Instance p) h.0 h.1)) u.2 u.3 in
        let c = Has-map edit.renew cs x m.0 m.1 in
        let kind : c.0.kind ≡ Instance p = sym (laws.kinds c.0) ∙ (c.3 ∙ is) in
        let same : edit.renew c.0 ≡ c.0 = laws.solids c.0 (ap is_instance kind) in
        let shape : c.0.shape ≡ x = sym (ap (λ y. y.shape) same) ∙ c.2 in
        let has : Has cs x (Instance p) = subst (λ j. Has cs x j) kind (subst (λ y. Has cs y c.0.kind) shape c.1) in
        let v = was.1.all x (Instance p) has in
        let kept = Keeps-Has before x v.0 v.1 in
        (kept.0, subst (λ j. Keeps before x j kept.0) (v.3 refl) kept.1)
    solids_were k x p i (Err f) child was now h = absurd (now.1.only x (Instance p) h.0 h.1 i child).1

    settled : is_waiting turn.was.0 ≡ false
        → IsSettled (old_world edit) before s turn.was.0 (edit.old.expand s turn.was.1)
    settled done = s_settled edit laws start started before after s queued requeued turned worked expanded good turn done

    renewed_settled : Places edit before after s turn.was.0 turn.was.1
        → IsSettled w after s turn.was.0 (renewed edit.renew (edit.old.expand s turn.was.1))
    renewed_settled p = placed edit laws start started before after s turn.was.0 turn.was.1 good.tree p.children (settled p.done)

    -- an instance after the turn was there before it, or is a child of what was expanded
    there_next : (d : Drawn N P) → Draws after d → Draws before d ⊎ IsMade edit reworked d.shape
    there_next d h = elim (where_from edit laws start started before after s queued requeued turned worked expanded good turn d.shape (Instance d.solid) h.0 h.1) [
      | inl e ↦
          let now = (is_turn edit laws start started before after s queued requeued turned worked expanded good
          turn).now (Instance d.solid) h.0 (subst (λ y. Keeps after y (Instance d.solid) h.0) e h.1) in
          let x : true ≡ false = now.0 in cc
      | inr r ↦ elim r.1 [
        | inl old ↦ inl (h.0, old)
        | inr created ↦ elim turn.was.4 [
          | inl x ↦ inr (s, created.0.0.0, subst (Among s) (sym (told_true s worked expanded x.0)) (inl refl), created.0.0.1)
          | inr p ↦ inl (solids_were turn.was.0 d.shape d.solid created.0.0.0 (edit.old.expand s turn.was.1) created.0.0.1 (settled p.1.done) (renewed_settled p.1) h)
        ]
      ]
    ]

    -- the parent of an instance that went isn't kept, or was expanded
    removed_from : (d : Drawn N P) → Draws before d → (Draws after d → ⊥) → (q : N) (i : ℕ)
        → IsChild (edit.chain q) i (edit.chain d.shape) → Kept edit (members_of start) (members_of after) q
        → Among q reworked
    removed_from d h gone q i child kept = elim (turn.to d.shape (Instance d.solid) h.0 h.1) [
      | inl r ↦ absurd (gone (r.1, subst (λ k. Keeps after d.shape k r.1) (r.4 refl) r.2))
      | inr removed ↦
          let back = kept_back edit laws start started before after s queued requeued turned worked expanded good turn q kept in
          let was = NonInstance-Keeps edit before q (kept_new edit (members_of start) (members_of before) back.0 q back.1).1 in
          let now = NonInstance-Keeps edit after q (kept_new edit (members_of start) (members_of after) kept.0 q kept.1).1 in
          elim (place_dec w q s) [
            | inl same ↦
                let is = alone edit laws start started before after s queued requeued turned worked expanded good turn q now.0 now.1 now.2 same in
                elim turn.was.4 [
                  | inl x ↦ subst (Among q) (sym (told_true s worked expanded x.0)) (inl (sym is))
                  | inr p ↦ absurd (gone (solids_stay turn.was.0 d.shape d.solid i (edit.old.expand s turn.was.1)
                      (subst (λ y. IsChild (edit.chain y) i (edit.chain d.shape)) is child) (settled p.1.done) (renewed_settled p.1) h))
                ]
            | inr apart ↦ elim (removed.below q i child) [
              | inl same ↦ absurd (apart same)
              | inr lost ↦
                  let there = as_it_was edit laws start started before after s queued requeued turned worked
                  expanded good turn q was.0 now.0 was.1 now.1 (λ e. apart (ap (place_of w) e)) was.2 now.2
                  (was.3 ∙ sym now.3) (λ e. let x : true ≡ false = sym e ∙ now.3 in cc) in
                  absurd (lost now.0 now.1 there now.2)
            ]
          ]
    ]

    module _ (gone come removed created : List (Drawn N P)) (kept : IsRecord edit start before worked gone come) (change : IsChange before after removed created) where
      back : (q : N) → Kept edit (members_of start) (members_of after) q
          → Kept edit (members_of start) (members_of before) q
      back q h = kept_back edit laws start started before after s queued requeued turned worked expanded good turn q h

      made_next : (d : Drawn N P) → (Draws before d → IsMade edit worked d.shape) → Draws after d
          → IsMade edit reworked d.shape
      made_next d was h = elim (there_next d h) [ inl b ↦ made_on d.shape (was b) | inr m ↦ m ]

      next_come : (d : Drawn N P) → Among d (come ++ created) → Draws after d × IsMade edit reworked d.shape
      next_come d i = elim (Among-append come created d i) [
        | inr c ↦ let g = change.each_created d c in (g.0, made_next d (λ b. absurd (g.1 b)) g.0)
        | inl c ↦ let g = kept.each_come d c in (drawn_stays d g.0 g.1, made_on d.shape g.1)
      ]

      was_old : (d : Drawn N P) → Draws before d → (Draws after d → ⊥) → Draws start d
      was_old d h lost = elim (kept.there d h) [ inl old ↦ old | inr made ↦ absurd (lost (drawn_stays d h made)) ]

      next_gone : (d : Drawn N P) → Among d (gone ++ removed)
          → Draws start d × (Draws after d → IsMade edit reworked d.shape)
          × ((q : N) (i : ℕ) → IsChild (edit.chain q) i (edit.chain d.shape)
          → Kept edit (members_of start) (members_of after) q → Among q reworked)
      next_gone d i = elim (Among-append gone removed d i) [
        | inr c ↦ let g = change.each_removed d c in (was_old d g.0 g.1, (λ h. absurd (g.1 h)), removed_from d g.0 g.1)
        | inl c ↦
            let g = kept.each_gone d c in
            (g.0, made_next d g.1, λ q j child k. still_worked edit laws start started before after s queued requeued turned worked expanded good turn q (g.2 q j child (back q k)))
      ]

      pub record_next : IsRecord edit start after reworked (gone ++ removed) (come ++ created)
      record_next = record {
        gone_once = Once-append gone removed kept.gone_once change.removed_once (λ d j i. let g = change.each_removed d i in g.1 (drawn_stays d g.0 ((kept.each_gone d j).1 g.0)));
        come_once = Once-append come created kept.come_once change.created_once (λ d j i. (change.each_created d i).1 (kept.each_come d j).0);
        each_come = next_come;
        each_gone = next_gone;
        there = λ d h. elim (there_next d h) [
          | inl b ↦ elim (kept.there d b) [ inl old ↦ inl old | inr made ↦ inr (made_on d.shape made) ]
          | inr made ↦ inr made
        ];
        balance = λ test. omega (arith, kept.balance test, change.balance test, count_append test come created, count_append test gone removed);
      }

  module _ (now : Nodes) (queued : N → Bool) (turned worked : List N)
      (good : IsWorking edit start now queued turned worked) (gone come : List (Drawn N P))
      (kept : IsRecord edit start now worked gone come) (empty : (n : N) (k : Kind F P) (a : A) → Keeps now n k a → queued n ≡ false) where
    done : IsExact edit start now worked
    done = exact edit laws start started now queued turned worked good empty

    pub record_exact : IsExactRecord edit start now gone come
    record_exact = record {
      gone_once = kept.gone_once;
      come_once = kept.come_once;
      each_come = λ d i. let g = kept.each_come d i in (g.0, (g.1.0, g.1.1, g.1.3, done.touched g.1.0 g.1.2));
      each_gone = λ d i. let g = kept.each_gone d i in (g.0, λ q j child k same. elim (done.touched q (g.2 q j child k)).1 [ inl never ↦ never k | inr other ↦ other.1 same ]);
      balance = kept.balance;
    }
