-- What is known of the new derivation before the work is done, and when it is over a budget.
use Rattle.std.specs.Prelude.{ℕ, ◌<◌, List, [], ◌++◌, map, length, Bool, true, false, ◌⊎◌, Result, Ok, Err}
use Rattle.cga_order.specs.World.{World, Among}
use Rattle.cga_order.specs.declared.placed.Placed.{Placed}
use Rattle.cga_order.specs.declared.placed.Kind.{Kind}
use Rattle.cga_order.specs.Run.{Reached}
use Rattle.cga_order.specs.Agenda.{Node, Keeps, asked}
use Rattle.cga_agenda.specs.Edit.{Edit, new_world}
use Rattle.cga_order.specs.Once.{Once}
use Rattle.cga_agenda.specs.Record.{IsMade}

-- the shapes of the members
abbrev pub shapes_of : {N F P : Type 0} → List (Placed N F P) → List N
shapes_of list = map (λ m. m.shape) list

-- the shapes of the children that an outcome has
abbrev pub made_by : {N F P : Type 0} → Result (List (Placed N F P)) F → List N
made_by (Ok children) = shapes_of children
made_by (Err fault) = []

-- some configuration that is reached has more members than the budget
abbrev pub IsOverBudget : {N A F P : Type 0} → World N A F P → ℕ → Type 0
IsOverBudget {N} {A} {F} {P} world budget =
    (taken : List N) × (reached : List (Placed N F P)) × Reached world taken reached × (budget < length reached)

module _ {N A B F P : Type 0} (edit : Edit N A B F P) where
  -- shapes that are known to be members of the new derivation: roots, and children of shapes that
  -- were expanded in this work
  pub record IsKnown (now : List (Node N A F P)) (worked known : List N) : Type 0 where
    pub once : Once known
    pub there : (m : N) → Among m known → (k : Kind F P) × (a : A) × Keeps now m k a
    pub made : (m : N) → Among m known → Among m edit.new.roots ⊎ IsMade edit worked m

  -- what is known after the turn of s: where it called expand, the children that it got too
  abbrev pub next_known : List (Node N A F P) → N → Bool → List N → List N
  next_known before s true known = made_by (edit.new.expand s (asked (new_world edit) before s)) ++ known
  next_known before s false known = known
