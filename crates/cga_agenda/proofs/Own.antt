-- The answers that a shape got at its own step are those at its stamp.
use Rattle.std.proofs.Common.{◌≡◌, List, [], ◌∷◌, true, false, refl, sym, ap, ◌∙◌, ◌⊎◌, subst, inl, inr, None}
use Rattle.cga_order.specs.World.{World, IsWorld, Has, Among, shapes_where, is_waiting, is_instance}
use Rattle.cga_order.specs.declared.placed.Placed.{Placed}
use Rattle.cga_order.specs.declared.placed.Kind.{Kind}
use Rattle.cga_order.specs.Run.{Reached}
use Rattle.cga_order.specs.Consistent.{NothingWaits}
use Rattle.cga_order.proofs.Door.{Has-start, waits}
use Rattle.std.proofs.lemmas.Bool.{cases_Bool as either}
use Rattle.cga_order.proofs.Door as steps
use Rattle.cga_agenda.specs.Edit.{answers_at}

-- n got these answers at its step of the run
abbrev pub AnsweredIn : {N A F P : Type 0} (world : World N A F P) (taken : List N) (list : List (Placed N F P))
    → Reached world taken list → N → A → Type 0
AnsweredIn world [] list run n a = ⊥
AnsweredIn world (s ∷ taken) list run n a =
    ((s ≡ n)
    × (world.answers s (shapes_where (λ m kind. true) run.0) (shapes_where (λ m kind. is_waiting kind) run.0) ≡ a))
    ⊎ AnsweredIn world taken run.0 run.1 n a

module _ {N A F P : Type 0} (world : World N A F P) (laws : IsWorld world) where
  abbrev Members : Type 0
  Members = List (Placed N F P)

  -- a shape that got answers in a run was taken in it
  pub taken-in : (taken : List N) (C : Members) (run : Reached world taken C) (n : N) (a : A)
      → AnsweredIn world taken C run n a → Among n taken
  taken-in [] C run n a h = absurd h
  taken-in (s ∷ taken) D run n a h = elim h [ inl e ↦ inl e.0 | inr r ↦ inr (taken-in taken run.0 run.1 n a r) ]

  pub answered : (taken : List N) (C : Members) (run : Reached world taken C) (n : N) (a : A)
      → AnsweredIn world taken C run n a → a ≡ answers_at world C n
  answered [] C run n a h = absurd h
  answered (s ∷ taken) D run n a h =
      let good = steps.in_order world laws taken run.0 run.1 in
      elim h [
        | inl e ↦ sym e.1 ∙ (steps.saw_answers world laws run.0 D s good run.2 ∙ ap (answers_at world D) e.0)
        | inr r ↦
            let done = steps.taken_done world laws taken run.0 run.1 n (taken-in taken run.0 run.1 n a r) in
            answered taken run.0 run.1 n a r ∙ steps.same_answers world laws run.0 D s good run.2 n (good.done n s done.0 done.1 done.2 run.2.waits)
      ]

  -- what is expanded was taken
  was_taken : (taken : List N) (C : Members) (run : Reached world taken C) (n : N) (k : Kind F P) → Has C n k
      → steps.IsExpanded world k → (a : A) × AnsweredIn world taken C run n a
  was_taken [] C run n k h x = absurd (steps.not_waiting world k x (Has-start world world.roots n k (subst (λ y. Has y n k) run h)).1)
  was_taken (s ∷ taken) D run n k h x =
      let good = steps.in_order world laws taken run.0 run.1 in
      elim ((steps.Changes-step world laws run.0 D s good run.2).from n k h) [
        | inl o ↦ let w = was_taken taken run.0 run.1 n k o.1 x in (w.0, inr w.1)
        | inr r ↦ elim r [
          | inl e ↦ (world.answers s (shapes_where (λ m kind. true) run.0) (shapes_where (λ m kind. is_waiting kind) run.0), inl (sym e.0, refl))
          | inr c ↦ absurd ((steps.law world laws run.0 D s good run.2 n k c).2 x)
        ]
      ]

  -- where nothing waits, answers got in a run are those at the shape's stamp, and each member but instances got them
  pub own : (taken : List N) (C : Members) (run : Reached world taken C) → NothingWaits world None C
      → ((n : N) (a : A) → AnsweredIn world taken C run n a → a ≡ answers_at world C n)
      × ((n : N) (k : Kind F P) → Has C n k → is_instance k ≡ false
      → AnsweredIn world taken C run n (answers_at world C n))
  own taken C run quiet = (
    answered taken C run,
    λ n k h i. elim (either (is_waiting k)) [
      | inl y ↦ absurd (quiet n (waits C n k h y) tt)
      | inr y ↦
          let w = was_taken taken C run n k h (steps.expanded_kind world k y i) in
          subst (AnsweredIn world taken C run n) (answered taken C run n w.0 w.1) w.1
    ],
  )
