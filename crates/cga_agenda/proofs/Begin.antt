-- How the work of an edit begins.
use Rattle.std.proofs.Common.{◌≡◌, ℕ, zero, suc, ◌+◌, ◌<◌, List, [], ◌∷◌, length, Bool, true, false, refl, sym, ap, ◌∙◌, subst, ◌⊎◌, inl, inr, Result, Ok, Err, arith, length-append}
use Rattle.cga_order.specs.World.{World, Among, is_waiting, is_instance}
use Rattle.cga_order.specs.declared.placed.Placed.{Placed}
use Rattle.cga_order.specs.declared.placed.Kind.{Kind}
use Rattle.cga_order.specs.declared.placed.Kind.TheVariants.{Waiting}
use Rattle.cga_order.specs.Agenda.{Node, members_of, Keeps, IsSettled, AllRight}
use Rattle.cga_order.proofs.Door.{SameAt, asks_same}
use Rattle.std.proofs.lemmas.Bool.{cases_Bool as either}
use Rattle.cga_agenda.specs.Edit.{Side, Edit, IsEdit, world_of, old_world, new_world, NonInstance, Kept}
use Rattle.cga_agenda.specs.Work.{IsBegun, IsOld, IsWorking, IsStart}
use Rattle.cga_agenda.proofs.Working.{ChildrenFrom, ChildrenTo, Keeps-NonInstance, NonInstance-Keeps, still_settled, settled_done, kept_new, was_right, root_no_child}

module _ {N A B F P : Type 0} (edit : Edit N A B F P) where
  abbrev Nodes : Type 0
  Nodes = List (Node N A F P)

  -- that a node is settled speaks of no sources
  pub settled_as : (one other : Side N A B F P) (nodes : Nodes) (n : N) (k : Kind F P)
      (r : Result (List (Placed N F P)) F)
      → IsSettled (world_of edit one) nodes n k r → IsSettled (world_of edit other) nodes n k r
  settled_as one other nodes n k (Ok cs) h = (h.0, record { all = h.1.all; only = h.1.only })
  settled_as one other nodes n k (Err f) h = (h.0, record { all = h.1.all; only = h.1.only })

  module _ (laws : IsEdit edit) (start : Nodes) (started : IsStart edit start) (nodes : Nodes) (queued : N → Bool) (begun : IsBegun edit start nodes queued) where
    abbrev w : World N A F P
    w = new_world edit

    from_children : (n : N) → ChildrenFrom edit start nodes n
    from_children n c j b i child h = elim (begun.from c j b h) [
      | inl old ↦ (j, b, old)
      | inr created ↦ absurd (root_no_child edit laws start started c n i created.0 child)
    ]

    to_children : (n : N) (k : Kind F P) (a : A) → Keeps start n k a → Keeps nodes n k a → ChildrenTo edit start nodes n
    to_children n k a h g c j b i child there = elim (begun.to c j b there) [
      | inl stays ↦ (j, b, stays, refl, λ e. refl)
      | inr removed ↦ absurd (removed.0 n i child k a h g)
    ]

    old_settled : (n : N) (k : Kind F P) (a : A) → Keeps start n k a → Keeps nodes n k a → is_instance k ≡ false
        → IsSettled (old_world edit) nodes n k (edit.old.expand n a)
    old_settled n k a h g i = still_settled edit edit.old laws.old start nodes n k a (from_children n) (to_children n k a h g) (was_right edit laws start started n k a h i).1

    sees_to : (n : N) (j : Kind F P) (b : A) → Keeps nodes n j b → is_instance j ≡ false → queued n ≡ false
        → SameAt w laws.new n start nodes
    sees_to n j b there y off m k a v e h = elim (begun.to m k a h) [
      | inl stays ↦ (k, a, stays, refl)
      | inr removed ↦ let x : true ≡ false = sym (removed.1 n j b there y v) ∙ off in cc
    ]

    sees_from : (n : N) (j : Kind F P) (b : A) → Keeps nodes n j b → is_instance j ≡ false → queued n ≡ false
        → SameAt w laws.new n nodes start
    sees_from n j b there y off m k a v e h = elim (begun.from m k a h) [
      | inl old ↦ (k, a, old, refl)
      | inr created ↦ let x : true ≡ false = sym (created.4 n j b there y v) ∙ off in cc
    ]

    right : AllRight w nodes queued
    right n k a h i = elim (begun.from n k a h) [
      | inr created ↦ inl created.2
      | inl old ↦ elim (begun.changed n k a h i) [
        | inl q ↦ inl q
        | inr same ↦ elim (either (queued n)) [
          | inl q ↦ inl q
          | inr off ↦
              let was = was_right edit laws start started n k a old i in
              let asks = was.0 ∙ (laws.answers n _ _ same.0 ∙ asks_same w laws.new n start nodes (sees_to n k a h i off) (sees_from n k a h i off)) in
              let settled = settled_as edit.old edit.new nodes n k (edit.old.expand n a) (old_settled n k a old h i) in
              inr (asks, subst (IsSettled w nodes n k) (sym (laws.outcome n a same.0 ∙ same.1)) settled)
        ]
      ]
    ]

    -- what was there and is there is kept
    kept : (bound : ℕ) (n : N) → length (edit.chain n).path < bound → NonInstance (members_of start) n
        → NonInstance (members_of nodes) n → Kept edit (members_of start) (members_of nodes) n
    kept zero n lt was is = absurd (omega (arith, lt))
    kept (suc bound) n lt was is =
        let u = NonInstance-Keeps edit nodes n is in
        elim (begun.tree.under n u.0 u.1 u.2) [
          | inl root ↦ (0, (was, is, laws.new.root n root))
          | inr q ↦
              let up : NonInstance (members_of start) q.0 = elim (begun.from q.0 q.1 q.2 q.4) [
                | inl old ↦ Keeps-NonInstance edit start q.0 q.1 q.2 old q.5
                | inr created ↦ absurd (created.3.bare q.3 n u.0 u.1 q.6 u.2)
              ] in
              let size : length (edit.chain n).path ≡ length (edit.chain q.0).path + 1 = ap length q.6.path ∙ length-append (edit.chain q.0).path (q.3 ∷ []) in
              let k = kept bound q.0 (omega (arith, lt, size)) up (Keeps-NonInstance edit nodes q.0 q.1 q.2 q.4 q.5) in
              (suc k.0, (was, is, (q.0, q.3, q.6, k.1)))
        ]

    waiting : (n : N) (k : Kind F P) (a : A) → Keeps nodes n k a → k ≡ Waiting
        → Kept edit (members_of start) (members_of nodes) n → ⊥
    waiting n k a h e kept = elim (begun.from n k a h) [
      | inl old ↦
          let done = settled_done edit (old_world edit) start n k (edit.old.expand n a) (was_right edit laws start started n k a old (ap is_instance e)).1 in
          let x : true ≡ false = sym (ap is_waiting e) ∙ done in cc
      | inr created ↦
          let u = NonInstance-Keeps edit start n (kept_new edit (members_of start) (members_of nodes) kept.0 n kept.1).0 in
          created.3.not_there u.0 u.1 u.2 (u.3 ∙ sym (ap is_instance e)) (λ i. let x : true ≡ false = sym i ∙ ap is_instance e in cc)
    ]

    others : (n : N) (k : Kind F P) (a : A) → Keeps nodes n k a → is_instance k ≡ false → is_waiting k ≡ false
        → Among n [] ⊎ IsOld edit start nodes queued [] n k a
    others n k a h i done = elim (begun.from n k a h) [
      | inl old ↦ inr record {
        kept = kept (length (edit.chain n).path + 1) n (omega arith) (Keeps-NonInstance edit start n k a old i) (Keeps-NonInstance edit nodes n k a h i);
        same = old;
        setting = elim (begun.changed n k a h i) [ inl q ↦ inl q | inr e ↦ inr e.0 ];
        children = inr (old_settled n k a old h i);
      }
      | inr created ↦ let x : true ≡ false = sym (ap is_waiting created.1) ∙ done in cc
    ]

    -- where the work of an edit has begun, what holds between turns holds, with no turn taken and nothing expanded
    pub begins : IsWorking edit start nodes queued [] []
    begins = record {
      tree = begun.tree;
      right = right;
      later = λ t i m k a h q. absurd i;
      turns_once = tt;
      stays = λ t i. absurd i;
      once = tt;
      expanded = λ x i. absurd i;
      waiting = waiting;
      others = others;
    }
