-- The loop over an agenda: what one turn does to the state that it works on, and how it ends.
use Rattle.std.specs.Prelude.{◌≡◌, ℕ, ◌+◌, List, [], ◌++◌, Bool, true, false, length, Option, Some, None}
use Rattle.cga_order.specs.Agenda.{Node, asked}
use Rattle.cga_agenda.specs.declared.ended.Ended.{Ended}
use Rattle.cga_agenda.specs.declared.ended.Ended.TheVariants.{Within, OverBudget}
use Rattle.cga_agenda.specs.declared.turned.Turned.{Turned}
use Rattle.cga_agenda.specs.Edit.{Edit, IsEdit, new_world}
use Rattle.cga_agenda.specs.Work.{StandOnce, NoneQueued, IsStart, IsBegun, IsTurnOf, IsWorking}
use Rattle.cga_agenda.specs.Record.{Drawn, IsChange, IsRecord}
use Rattle.cga_agenda.specs.Known.{made_by, IsOverBudget, IsKnown}

-- the nodes, which of them are on the agenda, and the record so far
pub record LoopState (N A F P : Type 0) : Type 0 where
  pub nodes : List (Node N A F P)
  pub queued : N → Bool
  pub gone : List (Drawn N P)
  pub come : List (Drawn N P)

-- the number of calls of expand in a turn
abbrev pub calls_of : Bool → ℕ
calls_of true = 1
calls_of false = 0

abbrev pub calls_told : Option Turned → ℕ
calls_told None = 0
calls_told (Some turned) = calls_of turned.expanded

abbrev pub children_told : Option Turned → Option ℕ
children_told None = None
children_told (Some turned) = Some turned.children

-- the number of calls that the end tells, where there were so many before and after it
abbrev pub HasCalled : ℕ → ℕ → Ended → Type 0
HasCalled calls since (Within n) = since ≡ calls + n
HasCalled calls since OverBudget = Unit {0}

module _ {N A B F P : Type 0} (edit : Edit N A B F P) where
  -- the children that the turn of s gives by a call of expand, and the number of calls: none where
  -- it places its children anew
  abbrev pub children_of : List (Node N A F P) → N → Bool → ℕ
  children_of before s true = length (made_by (edit.new.expand s (asked (new_world edit) before s)))
  children_of before s false = 0

  -- what went and came in a turn stands behind the record so far
  abbrev pub Records : LoopState N A F P → LoopState N A F P → Type 0
  Records before after =
      (removed : List (Drawn N P)) × (created : List (Drawn N P))
      × IsChange before.nodes after.nodes removed created
      × (after.gone ≡ before.gone ++ removed) × (after.come ≡ before.come ++ created)

  -- a turn, of which so many children came by a call of expand, with so many calls before and after it
  abbrev pub Turns : LoopState N A F P → LoopState N A F P → ℕ → ℕ → ℕ → Type 0
  Turns before after calls since children =
      (s : N) × (expanded : Bool)
      × IsTurnOf edit before.nodes after.nodes s before.queued after.queued expanded
      × Records before after
      × (children ≡ children_of before.nodes s expanded)
      × (since ≡ calls + calls_of expanded)

  -- nothing is on the agenda, and nothing is done
  pub record IsIdle (before after : LoopState N A F P) (calls since : ℕ) : Type 0 where
    pub same : after ≡ before
    pub none_queued : NoneQueued edit before.nodes before.queued
    pub no_call : since ≡ calls

  -- what a turn tells: how many children came, and nothing where there was no turn to do
  abbrev pub Tells : LoopState N A F P → LoopState N A F P → ℕ → ℕ → Option ℕ → Type 0
  Tells before after calls since None = IsIdle before after calls since
  Tells before after calls since (Some children) = Turns before after calls since children

  -- before the first turn of an edit that starts from these nodes: the roots that went and came are
  -- told, and so many of them there are now
  pub record IsReady (start : List (Node N A F P)) (first : LoopState N A F P) (number : ℕ) : Type 0 where
    pub laws : IsEdit edit
    pub started : IsStart edit start
    pub begun : IsBegun edit start first.nodes first.queued
    pub gone : IsChange start first.nodes first.gone []
    pub come : first.come ≡ []
    pub roots : number ≡ length edit.new.roots

  -- what the loop keeps: so many turns after the first state, where so many members are known
  pub record Knows (start : List (Node N A F P)) (first now : LoopState N A F P) (turns known calls since : ℕ) : Type 0 where
    pub turned : List N
    pub worked : List N
    pub learnt : List N
    pub working : IsWorking edit start now.nodes now.queued turned worked
    pub recorded : IsRecord edit start now.nodes worked now.gone now.come
    pub knows : IsKnown edit now.nodes worked learnt
    pub turns_are : turns ≡ length turned
    pub known_are : known ≡ length learnt
    pub calls_are : since ≡ calls + length worked

  -- the new derivation is within the budget, and the work is done: of the shapes that had their turn
  -- these were expanded, each by one call
  pub record IsDone (start : List (Node N A F P)) (last : LoopState N A F P) (budget calls since : ℕ) : Type 0 where
    pub within : IsOverBudget (new_world edit) budget → ⊥
    pub turned : List N
    pub worked : List N
    pub working : IsWorking edit start last.nodes last.queued turned worked
    pub recorded : IsRecord edit start last.nodes worked last.gone last.come
    pub none_queued : NoneQueued edit last.nodes last.queued
    pub once : StandOnce last.nodes
    pub calls_are : since ≡ calls + length worked

  -- how the loop ends, with so many calls before and after it
  abbrev pub IsEnded : List (Node N A F P) → LoopState N A F P → ℕ → ℕ → ℕ → Ended → Type 0
  IsEnded start last budget calls since (Within n) = IsDone start last budget calls since
  IsEnded start last budget calls since OverBudget = IsOverBudget (new_world edit) budget

-- what a turn tells is so of each state that the worker means, and it means the state after the turn
abbrev pub TellsEach : {N A B F P : Type 0} → (Edit N A B F P → LoopState N A F P → Type 0)
    → (Edit N A B F P → LoopState N A F P → Type 0) → ℕ → ℕ → Option ℕ → Type 0
TellsEach {N} {A} {B} {F} {P} was is calls since turned =
    (edit : Edit N A B F P) (before : LoopState N A F P) → was edit before
    → (after : LoopState N A F P) × is edit after × Tells edit before after calls since turned

-- from whatever edit and first state the worker means, and whatever nodes the edit started from, if these are ready
abbrev pub Ends : {N A B F P : Type 0} → (Edit N A B F P → LoopState N A F P → Type 0)
    → (Edit N A B F P → LoopState N A F P → Type 0) → ℕ → ℕ → ℕ → ℕ → Ended → Type 0
Ends {N} {A} {B} {F} {P} was is roots budget calls since ended =
    (edit : Edit N A B F P) (first : LoopState N A F P) → was edit first
    → (start : List (Node N A F P)) → IsReady edit start first roots
    → (last : LoopState N A F P) × is edit last × IsEnded edit start last budget calls since ended

-- what the loop keeps of each edit and first state that the worker meant
abbrev pub KnowsEach : {N A B F P : Type 0} → (Edit N A B F P → LoopState N A F P → Type 0)
    → (Edit N A B F P → LoopState N A F P → Type 0) → ℕ → ℕ → ℕ → ℕ → ℕ → Type 0
KnowsEach {N} {A} {B} {F} {P} was now roots turns known calls since =
    (edit : Edit N A B F P) (first : LoopState N A F P) → was edit first
    → (start : List (Node N A F P)) → IsReady edit start first roots
    → (state : LoopState N A F P) × now edit state × Knows edit start first state turns known calls since

-- so many nodes there are in each state that the worker means, and each stands once
abbrev pub Counts : {N A B F P : Type 0} → (Edit N A B F P → LoopState N A F P → Type 0) → ℕ → Type 0
Counts {N} {A} {B} {F} {P} now number =
    (edit : Edit N A B F P) (state : LoopState N A F P) → now edit state
    → (number ≡ length state.nodes) × StandOnce state.nodes
