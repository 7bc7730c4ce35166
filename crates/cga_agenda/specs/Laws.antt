-- What is proved of the work of an edit.
use Rattle.std.specs.Prelude.{ℕ, ◌<◌, ◌⊎◌, List, [], ◌∷◌, ◌++◌, Bool, length}
use Rattle.cga_order.specs.Chain.{IsChild}
use Rattle.cga_order.specs.World.{IsEarlier, birth_of, stamp_of}
use Rattle.cga_order.specs.Agenda.{Node}
use Rattle.cga_agenda.specs.Edit.{Edit, IsEdit, new_world}
use Rattle.cga_agenda.specs.Work.{StandOnce, NoneQueued, IsStart, next_worked, IsBegun, IsTurnOf, IsWorking}
use Rattle.cga_agenda.specs.Record.{Drawn, IsChange, IsRecord}
use Rattle.cga_agenda.specs.Known.{next_known, IsOverBudget, IsKnown}
use Rattle.cga_agenda.specs.Exact.{IsExact, IsExactRecord}

module _ (N A B F P : Type 0) where
  -- the roots that went and came, and the first agenda, begin the work
  abbrev pub WorkBegins : Type 0
  WorkBegins =
      (edit : Edit N A B F P) → IsEdit edit
      → (start nodes : List (Node N A F P)) (queued : N → Bool)
      → IsStart edit start → IsBegun edit start nodes queued
      → IsWorking edit start nodes queued [] []

  -- a turn keeps what holds between turns
  abbrev pub TurnsKeepWorking : Type 0
  TurnsKeepWorking =
      (edit : Edit N A B F P) → IsEdit edit
      → (start before after : List (Node N A F P)) (s : N) (queued requeued : N → Bool)
      (turned worked : List N) (expanded : Bool)
      → IsStart edit start
      → IsWorking edit start before queued turned worked
      → IsTurnOf edit before after s queued requeued expanded
      → IsWorking edit start after requeued (s ∷ turned) (next_worked s expanded worked)

  -- when nothing is on the agenda, the nodes are consistent, and those touched were expanded
  abbrev pub WorkIsExact : Type 0
  WorkIsExact =
      (edit : Edit N A B F P) → IsEdit edit
      → (start now : List (Node N A F P)) (queued : N → Bool) (turned worked : List N)
      → IsStart edit start
      → IsWorking edit start now queued turned worked
      → NoneQueued edit now queued
      → IsExact edit start now worked

  -- the record begins with what went with the old roots
  abbrev pub RecordBegins : Type 0
  RecordBegins =
      (edit : Edit N A B F P) → IsEdit edit
      → (start nodes : List (Node N A F P)) (queued : N → Bool) (gone : List (Drawn N P))
      → IsStart edit start → IsBegun edit start nodes queued → IsChange start nodes gone []
      → IsRecord edit start nodes [] gone []

  -- each turn adds to it what went and came
  abbrev pub TurnsKeepRecord : Type 0
  TurnsKeepRecord =
      (edit : Edit N A B F P) → IsEdit edit
      → (start before after : List (Node N A F P)) (s : N) (queued requeued : N → Bool)
      (turned worked : List N) (expanded : Bool) (gone come removed created : List (Drawn N P))
      → IsStart edit start
      → IsWorking edit start before queued turned worked
      → IsTurnOf edit before after s queued requeued expanded
      → IsRecord edit start before worked gone come
      → IsChange before after removed created
      → IsRecord edit start after (next_worked s expanded worked) (gone ++ removed) (come ++ created)

  -- when nothing is on the agenda it names what it must
  abbrev pub RecordIsExact : Type 0
  RecordIsExact =
      (edit : Edit N A B F P) → IsEdit edit
      → (start now : List (Node N A F P)) (queued : N → Bool) (turned worked : List N)
      (gone come : List (Drawn N P))
      → IsStart edit start
      → IsWorking edit start now queued turned worked
      → IsRecord edit start now worked gone come
      → NoneQueued edit now queued
      → IsExactRecord edit start now gone come

  -- what is known begins with the roots, and grows by the children of what is expanded
  pub record KnownGrows : Type 0 where
    pub begins : (edit : Edit N A B F P) → IsEdit edit
        → (start nodes : List (Node N A F P)) (queued : N → Bool)
        → IsStart edit start → IsBegun edit start nodes queued
        → IsKnown edit nodes [] edit.new.roots
    pub turns : (edit : Edit N A B F P) → IsEdit edit
        → (start before after : List (Node N A F P)) (s : N) (queued requeued : N → Bool)
        (turned worked known : List N) (expanded : Bool)
        → IsStart edit start
        → IsWorking edit start before queued turned worked
        → IsTurnOf edit before after s queued requeued expanded
        → IsKnown edit before worked known
        → IsKnown edit after (next_worked s expanded worked) (next_known edit before s expanded known)

  -- the new derivation is over the budget where more is known, or more shapes had their turn, than
  -- the budget allows; and at an empty agenda exactly where there are more nodes
  pub record OverBudgetIsExact : Type 0 where
    pub early : (edit : Edit N A B F P) → IsEdit edit
        → (start now : List (Node N A F P)) (queued : N → Bool) (turned worked known : List N)
        → IsStart edit start
        → IsWorking edit start now queued turned worked
        → IsKnown edit now worked known
        → (budget : ℕ) → (budget < length known) ⊎ (budget < length turned)
        → IsOverBudget (new_world edit) budget
    pub late : (edit : Edit N A B F P) → IsEdit edit
        → (start now : List (Node N A F P)) (queued : N → Bool) (turned worked : List N)
        → IsStart edit start
        → IsWorking edit start now queued turned worked
        → NoneQueued edit now queued
        → StandOnce now
        → (budget : ℕ)
        → (IsOverBudget (new_world edit) budget → budget < length now)
        × (budget < length now → IsOverBudget (new_world edit) budget)

  -- what stands below s was made at the stamp of s or later
  pub record BelowIsLate : Type 0 where
    pub child : (edit : Edit N A B F P) → IsEdit edit
        → (s m : N) (i : ℕ) → IsChild (edit.chain s) i (edit.chain m)
        → IsEarlier (new_world edit) (birth_of (new_world edit) m) (stamp_of (new_world edit) s) → ⊥
    pub further : (edit : Edit N A B F P) → IsEdit edit
        → (s p m : N) (i : ℕ) → IsChild (edit.chain p) i (edit.chain m)
        → (IsEarlier (new_world edit) (birth_of (new_world edit) p) (stamp_of (new_world edit) s) → ⊥)
        → IsEarlier (new_world edit) (birth_of (new_world edit) m) (stamp_of (new_world edit) s) → ⊥
