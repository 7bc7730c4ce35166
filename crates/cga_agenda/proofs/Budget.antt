-- What is known of the new derivation before the work is done.
use Rattle.std.proofs.Common.{◌≡◌, ℕ, ◌≤◌, List, [], ◌++◌, length, Bool, true, false, refl, sym, ap, ◌∙◌, subst, ◌⊎◌, inl, inr, Result, Ok, Err, Option, Some, None, arith}
use Rattle.cga_order.specs.Rank.{Rank}
use Rattle.cga_order.specs.Chain.{IsChild}
use Rattle.cga_order.specs.World.{World, Among, stamp_of, birth_of}
use Rattle.cga_order.specs.declared.placed.Placed.{Placed}
use Rattle.cga_order.specs.declared.placed.Kind.{Kind}
use Rattle.cga_order.specs.Run.{Reached}
use Rattle.cga_order.specs.Consistent.{IsBefore, IsConsistent, NothingWaits, SameMembers}
use Rattle.cga_order.specs.Agenda.{Node, members_of, Keeps, asked, IsSettled}
use Rattle.cga_order.proofs.Door.{Among-append, Has-Keeps, Keeps-Has, Once-append, birth-child, birth-stamp, length-once, right_consistent, root-before, same_members}
use Rattle.cga_order.proofs.Door as steps
use Rattle.cga_agenda.specs.Edit.{Edit, IsEdit, new_world}
use Rattle.cga_order.specs.Once.{Once}
use Rattle.cga_agenda.specs.Work.{next_worked, IsBegun, Expands, IsTurnOf, IsWorking, NoneQueued, IsStart}
use Rattle.cga_agenda.specs.Record.{IsMade}
use Rattle.cga_agenda.specs.Known.{shapes_of, made_by, next_known, IsKnown}
use Rattle.cga_agenda.proofs.Lists.{Has-Among, Among-Has}
use Rattle.cga_agenda.proofs.Working.{parents_same, root_no_child}
use Rattle.cga_agenda.proofs.Turning.{not_worked}
use Rattle.cga_agenda.proofs.Record.{made_stays, made_on}
use Rattle.cga_agenda.proofs.Made.{length-map, once-children, once-reached, before-earlier, made_before, least_queued}

module _ {N A B F P : Type 0} (edit : Edit N A B F P) (laws : IsEdit edit) (start : List (Node N A F P)) (started : IsStart edit start) where
  abbrev Nodes : Type 0
  Nodes = List (Node N A F P)

  abbrev w : World N A F P
  w = new_world edit

  pub known_begins : (nodes : Nodes) (queued : N → Bool) → IsBegun edit start nodes queued → Once edit.new.roots
      → IsKnown edit nodes [] edit.new.roots
  known_begins nodes queued begun o = record {
    once = o;
    there = λ m i. let r = begun.tree.roots m i in (r.0, r.1, r.2);
    made = λ m i. inl i;
  }

  module _ (before after : Nodes) (s : N) (queued requeued : N → Bool) (turned worked : List N) (expanded : Bool)
      (known : List N) (good : IsWorking edit start before queued turned worked)
      (turn : IsTurnOf edit before after s queued requeued expanded) (knows : IsKnown edit before worked known) where
    abbrev reworked : List N
    reworked = next_worked s expanded worked

    still_there : (m : N) → Among m known → (k : Kind F P) × (a : A) × Keeps after m k a
    still_there m i = elim (knows.made m i) [
      | inl root ↦ let r = turn.tree.roots m root in (r.0, r.1, r.2)
      | inr made ↦
          let g = knows.there m i in
          let r = made_stays edit laws start started before after s queued requeued turned worked expanded good turn m g.0 g.1 g.2 made in
          (r.0, r.1, r.2)
    ]

    still_made : (m : N) → Among m known → Among m edit.new.roots ⊎ IsMade edit reworked m
    still_made m i = elim (knows.made m i) [
      | inl root ↦ inl root
      | inr made ↦ inr (made_on edit laws start started before after s queued requeued turned worked expanded good turn m made)
    ]

    pub known_stays : IsKnown edit after reworked known
    known_stays = record { once = knows.once; there = still_there; made = still_made }

    module _ (told : expanded ≡ true) (x : Expands edit before after s turn.was.0 turn.was.1) where
      answers : A
      answers = asked w before s

      s_after : (j : Kind F P) × IsSettled w after s j (edit.new.expand s (asked w before s))
      s_after = elim (turn.to s turn.was.0 turn.was.1 turn.was.2) [
        | inl r ↦
            let now = x.now r.0 r.1 r.2 in
            (r.0, subst (λ b. IsSettled w after s r.0 (edit.new.expand s b)) now.1 now.2)
        | inr removed ↦ absurd (removed.late (birth-stamp edit.mode (edit.chain s)))
      ]

      -- a child that came: below s, and there
      child : (r : Result (List (Placed N F P)) F) → edit.new.expand s (asked w before s) ≡ r → (j : Kind F P)
          → IsSettled w after s j r → (m : N) → Among m (made_by r)
          → ((i : ℕ) × IsChild (edit.chain s) i (edit.chain m)) × ((l : Kind F P) × (b : A) × Keeps after m l b)
      child (Ok cs) e j h m i =
          let c = Among-Has cs m i in
          let u = steps.child_of w laws.new s _ cs e m c.0 c.1 in
          let v = h.1.all m c.0 c.1 in
          let g = Keeps-Has after m v.0 v.1 in
          ((u.0, u.5), (v.0, g.0, g.1))
      child (Err f) e j h m i = absurd i

      of_s : (m : N) → Among m (made_by (edit.new.expand s (asked w before s)))
          → ((i : ℕ) × IsChild (edit.chain s) i (edit.chain m)) × ((l : Kind F P) × (b : A) × Keeps after m l b)
      of_s m i = child (edit.new.expand s (asked w before s)) refl s_after.0 s_after.1 m i

      once_made : (r : Result (List (Placed N F P)) F) → edit.new.expand s (asked w before s) ≡ r → Once (made_by r)
      once_made (Ok cs) e = once-children w laws.new s _ cs e
      once_made (Err f) e = tt

      apart : (m : N) → Among m (made_by (edit.new.expand s (asked w before s))) → Among m known → ⊥
      apart m i j =
          let c = (of_s m i).0 in
          elim (knows.made m j) [
            | inl root ↦ root_no_child edit laws start started m s c.0 root c.1
            | inr (y, l, among, below) ↦
                let t = good.stays y (good.expanded y among).0 in
                let is = (good.tree.distinct y s t.0 turn.was.0 t.1 turn.was.1 t.2 turn.was.2 (parents_same edit laws start started y s m l c.0 below c.1)).0 in
                not_worked edit laws start started before after s queued requeued turned worked expanded good turn (subst (λ z. Among z worked) is among)
          ]

      known_more : IsKnown edit after reworked (made_by (edit.new.expand s (asked w before s)) ++ known)
      known_more = record {
        once = Once-append (made_by (edit.new.expand s (asked w before s))) known (once_made (edit.new.expand s (asked w before s)) refl) knows.once apart;
        there = λ m i. elim (Among-append (made_by (edit.new.expand s (asked w before s))) known m i) [ inl c ↦ (of_s m c).1 | inr o ↦ still_there m o ];
        made = λ m i. elim (Among-append (made_by (edit.new.expand s (asked w before s))) known m i) [
          | inl c ↦ let u = (of_s m c).0 in inr (s, u.0, subst (Among s) (sym (ap (λ b. next_worked s b worked) told)) (inl refl), u.1)
          | inr o ↦ still_made m o
        ];
      }

    pub known_grows : IsKnown edit after (next_worked s expanded worked) (next_known edit before s expanded known)
    known_grows = elim turn.was.4 [
      | inl x ↦ subst (λ b. IsKnown edit after (next_worked s expanded worked) (next_known edit before s b known)) (sym x.0) (known_more x.0 x.1)
      | inr p ↦ subst (λ b. IsKnown edit after (next_worked s expanded worked) (next_known edit before s b known)) (sym p.0) known_stays
    ]

  module _ (now : Nodes) (queued : N → Bool) (turned worked : List N) (good : IsWorking edit start now queued turned worked) where
    -- a limit that comes after all that was done, and before what is on the agenda
    limit : (l : Option (List Rank))
        × ((n : N) (k : Kind F P) (a : A) → Keeps now n k a → queued n ≡ true → IsBefore w l (stamp_of w n) → ⊥)
        × ((t : N) → Among t turned → IsBefore w l (stamp_of w t))
        × ((m : N) → Among m edit.new.roots → IsBefore w l (birth_of w m))
    limit = elim (least_queued w laws.new queued now) [
      | inl none ↦ (None, (λ n k a h q b. let x : true ≡ false = sym q ∙ none n k a h in cc), (λ t i. tt), (λ m i. tt))
      | inr (s, k, a, there, q, least) ↦ (
        Some (stamp_of w s),
        (λ n j b h t e. least n j b h t e),
        (λ t i. good.later t i s k a there q),
        (λ m i. root-before edit.mode (edit.chain m) (edit.chain s) (laws.new.root m i)),
      )
    ]

    consistent : IsConsistent w limit.0 (members_of now)
    consistent = right_consistent w laws.new now queued limit.0 good.tree good.right limit.1

    module _ (taken : List N) (reached : List (Placed N F P)) (run : Reached w taken reached) (quiet : NothingWaits w None reached) where
      derived : (m : N) (k : Kind F P) (a : A) → Keeps now m k a → IsBefore w limit.0 (birth_of w m)
          → Among m (shapes_of reached)
      derived m k a h b = made_before w laws.new limit.0 (members_of now) consistent taken reached run quiet m k (Has-Keeps now m k a h) b

      size : length (shapes_of reached) ≡ length reached
      size = length-map (λ m. m.shape) reached

      -- where the new derivation has ended, the shapes known of it between turns are no more than its members
      pub known_derived : (known : List N) → IsKnown edit now worked known → length known ≤ length reached
      known_derived known knows =
          let bound = length-once known (shapes_of reached) knows.once (λ m i.
          let g = knows.there m i in
          derived m g.0 g.1 g.2 (elim (knows.made m i) [
            | inl root ↦ limit.3 m root
            | inr (x, l, among, child) ↦
                let birth = birth-child edit.mode (edit.chain x) l (edit.chain m) (laws.new.whole x) child in
                subst (IsBefore w limit.0) (sym birth) (limit.2 x (good.expanded x among).0)
          ])) in
          omega (arith, bound, size)

      -- where the new derivation has ended, the shapes that had their turn are no more than its members
      pub turned_derived : length turned ≤ length reached
      turned_derived =
          let bound = length-once turned (shapes_of reached) good.turns_once (λ t i.
          let g = good.stays t i in
          derived t g.0 g.1 g.2 (before-earlier w laws.new limit.0 (birth_of w t) (stamp_of w t) (birth-stamp edit.mode (edit.chain t)) (limit.2 t i))) in
          omega (arith, bound, size)

      pub worked_turned : length worked ≤ length turned
      worked_turned = length-once worked turned good.once (λ x i. (good.expanded x i).0)

      -- where nothing waits or is queued, and roots and nodes stand once, the nodes have the new members, as many
      pub all_derived : NoneQueued edit now queued → Once edit.new.roots → Once (shapes_of (members_of now))
          → SameMembers (members_of now) reached × (length now ≡ length reached)
      all_derived empty roots once =
          let con = right_consistent w laws.new now queued None good.tree good.right (λ n k a h q b. let x : true ≡ false = sym q ∙ empty n k a h in cc) in
          let same = same_members w laws.new (members_of now) con taken reached run quiet in
          let one = length-once (shapes_of (members_of now)) (shapes_of reached) once (λ m i. let g = Among-Has (members_of now) m i in Has-Among reached m g.0 ((same m g.0).0 g.1)) in
          let other = length-once (shapes_of reached) (shapes_of (members_of now))
          (once-reached w laws.new taken reached run roots) (λ m i. let g = Among-Has reached m i in
          Has-Among (members_of now) m g.0 ((same m g.0).1 g.1)) in
          let nodes : length (shapes_of (members_of now)) ≡ length now = length-map (λ m. m.shape) (members_of now) ∙ length-map (λ m. record { shape = m.shape; kind = m.kind }) now in
          (same, omega (arith, one, other, size, nodes))
