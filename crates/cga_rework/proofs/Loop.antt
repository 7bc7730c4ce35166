-- What the loop over the agenda ends with, over the two derivations.
use Rattle.std.proofs.Common.{◌≡◌, ℕ, ◌+◌, List, length, refl, Option, Some, None}
use Rattle.cga_order.specs.declared.placed.Placed.{Placed}
use Rattle.cga_order.specs.Agenda.{Node}
use Rattle.cga_derivation.specs.Derivation.{derive, IsDerived}
use Rattle.cga_derivation.proofs.Door.{within}
use Rattle.cga_agenda.specs.Work.{StandOnce, IsStart}
use Rattle.cga_agenda.specs.Loop.{LoopState, IsDone}
use Rattle.cga_rework.specs.Rules.{Shapes, Rules, IsRulesEdit, derivation_of}
use Rattle.cga_rework.specs.Ranked.{Ranked, edit_of}
use Rattle.cga_rework.specs.Exact.{IsExactRework}
use Rattle.cga_rework.proofs.End.{rework}
use Rattle.cga_rework.proofs.More.{none_over}

module _ {S A B F P : Type 0} (shapes : Shapes S) (old new : Rules S A B F P) (laws : IsRulesEdit shapes old new)
    (start : List (Node (Ranked S) A F P)) (started : IsStart (edit_of shapes old new) start)
    (start_once : StandOnce start) (last : LoopState (Ranked S) A F P) (budget calls since : ℕ)
    (ended : IsDone (edit_of shapes old new) start last budget calls since) (before : List (Placed S F P))
    (was : IsDerived (derivation_of shapes old) before) where
  abbrev Exact : Type 0
  Exact =
      (after : List (Placed S F P)) × (derive (derivation_of shapes new) budget ≡ Some after)
      × ((worked : List (Ranked S)) × IsExactRework shapes old new last.nodes worked last.gone last.come before after × (since ≡ calls + length worked))

  -- when the loop has ended, the new derivation is within budget, the rework exact, and each expanded shape took a call
  pub loop_done : Exact
  loop_done = by (derive (derivation_of shapes new) budget) refl
    where
      by : (answer : Option (List (Placed S F P))) → derive (derivation_of shapes new) budget ≡ answer → Exact
      by None none = absurd (ended.within (none_over shapes new laws.is budget none))
      by (Some after) is =
          let exact = rework shapes old new laws start last.nodes last.queued ended.turned ended.worked last.gone
          last.come started start_once ended.working ended.once ended.recorded ended.none_queued before after
          was (within (derivation_of shapes new) laws.is budget after is) in
          (after, is, (ended.worked, exact, ended.calls_are))
