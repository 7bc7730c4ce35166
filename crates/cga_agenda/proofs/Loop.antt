-- What the loop over an agenda keeps, and how it ends.
use Rattle.std.proofs.Common.{◌≡◌, ℕ, ◌+◌, ◌≤◌, ◌<◌, List, [], ◌∷◌, ◌++◌, length, Bool, true, false, refl, sym, ◌∙◌, subst, ◌⊎◌, inl, inr, Option, Some, None, arith, length-append}
use Rattle.cga_order.specs.Agenda.{Node, asked}
use Rattle.cga_agenda.specs.Edit.{Edit, new_world}
use Rattle.cga_agenda.specs.Work.{StandOnce, NoneQueued, next_worked}
use Rattle.cga_agenda.specs.Record.{IsRecord}
use Rattle.cga_agenda.specs.Known.{made_by, next_known, IsOverBudget}
use Rattle.cga_agenda.specs.Loop.{LoopState, children_of, calls_of, Turns, TellsEach, Counts, Ends, IsReady, Knows, KnowsEach, IsDone}
use Rattle.cga_agenda.specs.declared.ended.Ended.TheVariants.{Within, OverBudget}
use Rattle.cga_agenda.proofs.Lists.{roots_once}
use Rattle.cga_agenda.proofs.Turning as work
use Rattle.cga_agenda.proofs.Begin as begin
use Rattle.cga_agenda.proofs.Record as record_of
use Rattle.cga_agenda.proofs.Budget as budgets
use Rattle.cga_agenda.proofs.OverBudget as overs

module _ {N A B F P : Type 0} (edit : Edit N A B F P) (start : List (Node N A F P)) (first : LoopState N A F P) (roots calls : ℕ) (ready : IsReady edit start first roots) where
  pub knows_first : (known : ℕ) → known ≡ roots → Knows edit start first first 0 known calls calls
  knows_first known e = record {
    turned = [];
    worked = [];
    learnt = edit.new.roots;
    working = begin.begins edit ready.laws start ready.started first.nodes first.queued ready.begun;
    recorded = subst (IsRecord edit start first.nodes [] first.gone) (sym ready.come)
        (record_of.record_begins edit ready.laws start ready.started first.nodes first.queued ready.begun first.gone ready.gone);
    knows = budgets.known_begins edit ready.laws start ready.started first.nodes first.queued ready.begun (roots_once (new_world edit) ready.laws.new);
    turns_are = refl;
    known_are = e ∙ ready.roots;
    calls_are = omega arith;
  }

  module _ (now : LoopState N A F P) (turns known since : ℕ) (k : Knows edit start first now turns known calls since) where
    pub knows_next : (after : LoopState N A F P) (children more then : ℕ) → more ≡ children
        → Turns edit now after since then children → Knows edit start first after (turns + 1) (known + more) calls then
    knows_next after children more then e (s, expanded, turn, (removed, created, change, gone_is, come_is), tells, called) = record {
      turned = s ∷ k.turned;
      worked = next_worked s expanded k.worked;
      learnt = next_known edit now.nodes s expanded k.learnt;
      working = work.next edit ready.laws start ready.started now.nodes after.nodes s now.queued after.queued k.turned k.worked expanded k.working turn;
      recorded = subst (λ g. IsRecord edit start after.nodes (next_worked s expanded k.worked) g after.come)
          (sym gone_is) (subst (IsRecord edit start after.nodes (next_worked s expanded k.worked)
          (now.gone ++ removed)) (sym come_is) (record_of.record_next edit ready.laws start ready.started now.nodes
          after.nodes s now.queued after.queued k.turned k.worked expanded k.working turn now.gone now.come removed created k.recorded change));
      knows = budgets.known_grows edit ready.laws start ready.started now.nodes after.nodes s now.queued after.queued k.turned k.worked expanded k.learnt k.working turn k.knows;
      turns_are = omega (arith, k.turns_are);
      known_are = known_more expanded tells;
      calls_are = calls_more expanded called;
    }
      where
        known_more : (b : Bool) → children ≡ children_of edit now.nodes s b
            → known + more ≡ length (next_known edit now.nodes s b k.learnt)
        known_more true t = omega (arith, e, t, k.known_are, length-append (made_by (edit.new.expand s (asked (new_world edit) now.nodes s))) k.learnt)
        known_more false t = omega (arith, e, t, k.known_are)

        calls_more : (b : Bool) → then ≡ since + calls_of b → then ≡ calls + length (next_worked s b k.worked)
        calls_more true t = omega (arith, t, k.calls_are)
        calls_more false t = omega (arith, t, k.calls_are)

    pub over_early : (budget : ℕ) → (budget < known) ⊎ (budget < turns) → IsOverBudget (new_world edit) budget
    over_early budget more = overs.early edit ready.laws start ready.started now.nodes now.queued k.turned k.worked
        k.working k.learnt k.knows budget (elim more [ inl lt ↦ inl (omega (arith, lt, k.known_are)) | inr lt ↦ inr (omega (arith, lt, k.turns_are)) ])

    module _ (empty : NoneQueued edit now.nodes now.queued) (once : StandOnce now.nodes) (budget : ℕ) where
      pub over_late : budget < length now.nodes → IsOverBudget (new_world edit) budget
      over_late lt = (overs.late edit ready.laws start ready.started now.nodes now.queued k.turned k.worked k.working empty (roots_once (new_world edit) ready.laws.new) once budget).1 lt

      pub done : (then : ℕ) → then ≡ since → length now.nodes ≤ budget → IsDone edit start now budget calls then
      done then still not_more = record {
        within = λ o. let lt = (overs.late edit ready.laws start ready.started now.nodes now.queued k.turned
            k.worked k.working empty (roots_once (new_world edit) ready.laws.new) once budget).0 o in omega (arith, lt, not_more);
        turned = k.turned;
        worked = k.worked;
        working = k.working;
        recorded = k.recorded;
        none_queued = empty;
        once = once;
        calls_are = still ∙ k.calls_are;
      }

module _ {N A B F P : Type 0} (was now after : Edit N A B F P → LoopState N A F P → Type 0) (roots calls : ℕ) where
  pub first_each : (known : ℕ) → known ≡ roots → KnowsEach was was roots 0 known calls calls
  first_each known e edit first means start ready = (first, means, knows_first edit start first roots calls ready known e)

  module _ (turns known since then : ℕ) (k : KnowsEach was now roots turns known calls since) where
    pub next_each : (children more : ℕ) → more ≡ children → TellsEach now after since then (Some children)
        → KnowsEach was after roots (turns + 1) (known + more) calls then
    next_each children more e tells edit first means start ready =
        let h = k edit first means start ready in
        let t = tells edit h.0 h.1 in
        (t.0, t.1, knows_next edit start first roots calls ready h.0 turns known since h.2 t.0 children more then e t.2)

    module _ (budget number : ℕ) (idle : TellsEach now after since then None) (counts : Counts after number) where
      pub ends_over : budget < number → Ends was after roots budget calls then OverBudget
      ends_over lt edit first means start ready =
          let h = k edit first means start ready in
          let t = idle edit h.0 h.1 in
          let size = counts edit t.0 t.1 in
          let once = subst (λ (x : LoopState N A F P). StandOnce x.nodes) t.2.same size.1 in
          let number_is : number ≡ length h.0.nodes = subst (λ (x : LoopState N A F P). number ≡ length x.nodes) t.2.same size.0 in
          (t.0, t.1, over_late edit start first roots calls ready h.0 turns known since h.2 t.2.none_queued once budget (omega (arith, lt, number_is)))

      pub ends_done : (n : ℕ) → number ≤ budget → Ends was after roots budget calls then (Within n)
      ends_done n le edit first means start ready =
          let h = k edit first means start ready in
          let t = idle edit h.0 h.1 in
          let size = counts edit t.0 t.1 in
          let once = subst (λ (x : LoopState N A F P). StandOnce x.nodes) t.2.same size.1 in
          let number_is : number ≡ length h.0.nodes = subst (λ (x : LoopState N A F P). number ≡ length x.nodes) t.2.same size.0 in
          (h.0, subst (after edit) t.2.same t.1, done edit start first roots calls ready h.0 turns known since h.2 t.2.none_queued once budget then t.2.no_call (omega (arith, le, number_is)))

  pub ends_early : (turns known since budget : ℕ) → (budget < known) ⊎ (budget < turns)
      → KnowsEach was now roots turns known calls since → Ends was now roots budget calls since OverBudget
  ends_early turns known since budget more k edit first means start ready =
      let h = k edit first means start ready in
      (h.0, h.1, over_early edit start first roots calls ready h.0 turns known since h.2 budget more)

  -- what a worker tells, as a turn or as none
  pub told : (since then : ℕ) (turned is : Option ℕ) → turned ≡ is → TellsEach now after since then turned
      → TellsEach now after since then is
  told since then turned is e h = subst (TellsEach now after since then) e h
