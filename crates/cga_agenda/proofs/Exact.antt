-- At an empty agenda the shapes that were expanded are those touched.
use Rattle.std.proofs.Common.{◌≡◌, List, Bool, true, false, sym, ◌∙◌, ◌⊎◌, inl, inr, None}
use Rattle.cga_order.specs.World.{World, Among, is_instance}
use Rattle.cga_order.specs.declared.placed.Kind.{Kind}
use Rattle.cga_order.specs.Agenda.{Node, members_of, Keeps, IsRight}
use Rattle.cga_order.proofs.Door.{right_consistent}
use Rattle.cga_agenda.specs.Edit.{Edit, IsEdit, new_world, Touched}
use Rattle.cga_agenda.specs.Work.{IsWorking, IsStart}
use Rattle.cga_agenda.specs.Exact.{IsExact}
use Rattle.cga_agenda.proofs.Working.{Keeps-NonInstance, NonInstance-Keeps, settled_done, was_right}

module _ {N A B F P : Type 0} (edit : Edit N A B F P) (laws : IsEdit edit) (start : List (Node N A F P))
    (started : IsStart edit start) (now : List (Node N A F P)) (queued : N → Bool) (turned worked : List N)
    (good : IsWorking edit start now queued turned worked) (empty : (n : N) (k : Kind F P) (a : A) → Keeps now n k a → queued n ≡ false) where
  abbrev w : World N A F P
  w = new_world edit

  right_now : (n : N) (k : Kind F P) (a : A) → Keeps now n k a → is_instance k ≡ false → IsRight w now n k a
  right_now n k a h i = elim (good.right n k a h i) [ inl q ↦ (let x : true ≡ false = sym q ∙ empty n k a h in cc) | inr r ↦ r ]

  touched : (n : N) → Among n worked → Touched edit (members_of start) (members_of now) n
  touched n i =
      let g = good.expanded n i in
      let t = good.stays n g.0 in
      let x = g.1 t.0 t.1 t.2 in (
        Keeps-NonInstance edit now n t.0 t.1 t.2 t.3,
        elim x.1 [
          | inl never ↦ inl never
          | inr d ↦ inr (d.0, λ same. d.1 (same.0, same.1 ∙ sym (right_now n t.0 t.1 t.2 t.3).0))
        ],
      )

  all : (n : N) → Touched edit (members_of start) (members_of now) n → Among n worked
  all n t =
      let u = NonInstance-Keeps edit now n t.0 in
      let r = right_now n u.0 u.1 u.2 u.3 in
      elim (good.others n u.0 u.1 u.2 u.3 (settled_done edit w now n u.0 (edit.new.expand n u.1) r.1)) [
        | inl i ↦ i
        | inr old ↦ elim t.1 [
          | inl never ↦ absurd (never old.kept)
          | inr d ↦ absurd (d.1 (setting u.0 u.1 old.setting u.2, sym (was_right edit laws start started n u.0 u.1 old.same u.3).0 ∙ r.0))
        ]
      ]
    where
      setting : (k : Kind F P) (a : A) → (queued n ≡ true) ⊎ (edit.old.setting n ≡ edit.new.setting n) → Keeps now n k a
          → edit.old.setting n ≡ edit.new.setting n
      setting k a s h = elim s [ inl q ↦ (let x : true ≡ false = sym q ∙ empty n k a h in cc) | inr e ↦ e ]

  pub exact : IsExact edit start now worked
  exact = record {
    consistent = right_consistent w laws.new now queued None good.tree good.right (λ n k a h q b. let x : true ≡ false = sym q ∙ empty n k a h in cc);
    once = good.once;
    touched = touched;
    all = all;
  }
