-- What is proved of an edit between two derivations.
use Rattle.std.specs.Prelude.{◌≡◌, ℕ, ◌+◌, ◌<◌, ◌⊎◌, List, [], length, Bool, false, Some, None, Ok}
use Rattle.cga_order.specs.World.{Has, is_instance}
use Rattle.cga_order.specs.declared.placed.Placed.{Placed}
use Rattle.cga_order.specs.declared.placed.Kind.{Kind}
use Rattle.cga_order.specs.Agenda.{Node}
use Rattle.cga_derivation.specs.Derivation.{Derivation, IsDerivation, IsDerived, derive}
use Rattle.cga_agenda.specs.Edit.{IsEdit, NonInstance, new_world, renewed}
use Rattle.cga_agenda.specs.Work.{StandOnce, NoneQueued, IsStart, IsWorking}
use Rattle.cga_agenda.specs.Record.{Drawn, IsRecord}
use Rattle.cga_agenda.specs.Known.{IsKnown, IsOverBudget}
use Rattle.cga_agenda.specs.Loop.{LoopState, IsDone}
use Rattle.cga_rework.specs.Rules.{Shapes, Rules, IsRulesEdit, derivation_of, shapes_from, rules_from, no_lots, Readings, IsReadBy}
use Rattle.cga_rework.specs.Ranked.{Ranked, edit_of, ranked_world}
use Rattle.cga_rework.specs.Touched.{Touched}
use Rattle.cga_rework.specs.Exact.{StandsFor, IsExactRework}

module _ (S A B F P : Type 0) where
  -- old and new rules make the edit of an agenda
  abbrev pub RulesMakeEdits : Type 0
  RulesMakeEdits =
      (shapes : Shapes S) (old new : Rules S A B F P) → IsRulesEdit shapes old new
      → IsEdit (edit_of shapes old new)

  -- when nothing is on the agenda, the work is done, with its record
  abbrev pub ReworkIsExact : Type 0
  ReworkIsExact =
      (shapes : Shapes S) (old new : Rules S A B F P) → IsRulesEdit shapes old new
      → (start now : List (Node (Ranked S) A F P)) (queued : Ranked S → Bool) (turned worked : List (Ranked S))
      (gone come : List (Drawn (Ranked S) P))
      → IsStart (edit_of shapes old new) start → StandOnce start
      → IsWorking (edit_of shapes old new) start now queued turned worked → StandOnce now
      → IsRecord (edit_of shapes old new) start now worked gone come
      → NoneQueued (edit_of shapes old new) now queued
      → (before after : List (Placed S F P))
      → IsDerived (derivation_of shapes old) before → IsDerived (derivation_of shapes new) after
      → IsExactRework shapes old new now worked gone come before after

  -- where more is known, or more shapes had their turn, than the budget allows, the new derivation is
  -- over it, whatever is still on the agenda
  abbrev pub KnownIsOver : Type 0
  KnownIsOver =
      (shapes : Shapes S) (old new : Rules S A B F P) → IsRulesEdit shapes old new
      → (start now : List (Node (Ranked S) A F P)) (queued : Ranked S → Bool) (turned worked known : List (Ranked S))
      → IsStart (edit_of shapes old new) start
      → IsWorking (edit_of shapes old new) start now queued turned worked
      → IsKnown (edit_of shapes old new) now worked known
      → (budget : ℕ) → (budget < length known) ⊎ (budget < length turned)
      → derive (derivation_of shapes new) budget ≡ None

  -- a configuration of ranked shapes has more members than the budget exactly where `derive` is none
  abbrev pub OverIsNone : Type 0
  OverIsNone =
      (shapes : Shapes S) (rules : Rules S A B F P) → IsDerivation (derivation_of shapes rules) → (budget : ℕ)
      → (IsOverBudget (ranked_world shapes rules) budget → derive (derivation_of shapes rules) budget ≡ None)
      × (derive (derivation_of shapes rules) budget ≡ None → IsOverBudget (ranked_world shapes rules) budget)

  -- two derivations of equal mode, lots and paths are rules over the same shapes
  abbrev pub DerivationsAreRules : Type 0
  DerivationsAreRules =
      (old new : Derivation S A F P) (setting : S → B)
      → old.mode ≡ new.mode → old.lot ≡ new.lot → old.path ≡ new.path
      → (derivation_of (shapes_from old) (rules_from old setting) ≡ old)
      × (derivation_of (shapes_from old) (rules_from new setting) ≡ new)

  -- from no lots, as where the modes differ, all non-instances are touched
  abbrev pub FromNothing : Type 0
  FromNothing =
      (shapes : Shapes S) (new : Rules S A B F P) → IsDerivation (derivation_of shapes new)
      → IsRulesEdit shapes (no_lots new) new × IsDerived (derivation_of shapes (no_lots new)) []
      × ((after : List (Placed S F P)) (s : S)
      → (Touched shapes (no_lots new) new [] after s → NonInstance after s)
      × (NonInstance after s → Touched shapes (no_lots new) new [] after s))

  -- where no child of a shape changes its priority, renewing its children changes nothing
  abbrev pub UnchangedChildren : Type 0
  UnchangedChildren =
      (shapes : Shapes S) (old new : Rules S A B F P) (n : Ranked S) (a : A)
      → ((children : List (Placed S F P)) → old.expand n.shape a ≡ Ok children
      → (c : S) (k : Kind F P) → Has children c k → is_instance k ≡ false → old.priority c ≡ new.priority c)
      → renewed (edit_of shapes old new).renew ((edit_of shapes old new).old.expand n a)
      ≡ (edit_of shapes old new).old.expand n a

  -- what the loop over the agenda ends with
  pub record LoopIsExact : Type 0 where
    -- over the budget, so is the new derivation
    pub over : (shapes : Shapes S) (old new : Rules S A B F P) → IsRulesEdit shapes old new
        → (budget : ℕ) → IsOverBudget (new_world (edit_of shapes old new)) budget
        → derive (derivation_of shapes new) budget ≡ None
    -- within it, the rework is exact, and there was a call of expand for each shape that was expanded
    pub done : (shapes : Shapes S) (old new : Rules S A B F P) → IsRulesEdit shapes old new
        → (start : List (Node (Ranked S) A F P)) → IsStart (edit_of shapes old new) start → StandOnce start
        → (last : LoopState (Ranked S) A F P) (budget calls since : ℕ)
        → IsDone (edit_of shapes old new) start last budget calls since
        → (before : List (Placed S F P)) → IsDerived (derivation_of shapes old) before
        → (after : List (Placed S F P)) × (derive (derivation_of shapes new) budget ≡ Some after)
        × ((worked : List (Ranked S))
        × IsExactRework shapes old new last.nodes worked last.gone last.come before after
        × (since ≡ calls + length worked))

  -- rules that read no more of their sources than the settings meet what an edit's rules have to
  abbrev pub ReadingsMakeEdits : Type 0
  ReadingsMakeEdits =
      (shapes : Shapes S) (readings : Readings S A B F P) (old new : Rules S A B F P)
      → IsDerivation (derivation_of shapes old) → IsDerivation (derivation_of shapes new)
      → IsReadBy readings old → IsReadBy readings new → IsRulesEdit shapes old new

  -- what an edit ends with is what the next one, whichever it is, starts from; the first starts from
  -- nothing
  pub record WorkStartsAgain : Type 0 where
    pub again : (shapes : Shapes S) (old new next : Rules S A B F P)
        → (start now : List (Node (Ranked S) A F P)) (queued : Ranked S → Bool) (turned worked : List (Ranked S))
        → IsWorking (edit_of shapes old new) start now queued turned worked
        → NoneQueued (edit_of shapes old new) now queued
        → IsStart (edit_of shapes new next) now
    pub first : (shapes : Shapes S) (new : Rules S A B F P)
        → IsStart (edit_of shapes (no_lots new) new) []

  -- what the work of an edit starts from stands for the old derivation
  abbrev pub StartStands : Type 0
  StartStands =
      (shapes : Shapes S) (old new : Rules S A B F P) → IsDerivation (derivation_of shapes old)
      → (start : List (Node (Ranked S) A F P)) → IsStart (edit_of shapes old new) start
      → (list : List (Placed S F P)) → IsDerived (derivation_of shapes old) list
      → StandsFor shapes old start list
