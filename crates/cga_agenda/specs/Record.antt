-- The record of change: the instances that went and came.
use Rattle.std.specs.Prelude.{◌≡◌, ℕ, ◌+◌, List, [], ◌∷◌, Bool, ◌⊎◌, count_by}
use Rattle.cga_order.specs.Chain.{IsChild}
use Rattle.cga_order.specs.World.{Among}
use Rattle.cga_order.specs.declared.placed.Placed.{Placed}
use Rattle.cga_order.specs.declared.placed.Kind.{Kind}
use Rattle.cga_order.specs.declared.placed.Kind.TheVariants.{Waiting, Done, Faulted, Instance}
use Rattle.cga_order.specs.Agenda.{Node, members_of, Keeps}
use Rattle.cga_agenda.specs.Edit.{Edit, Kept}
use Rattle.cga_order.specs.Once.{Once}

-- an instance: its shape and what it draws
pub record Drawn (N P : Type 0) : Type 0 where
  pub shape : N
  pub solid : P

abbrev drawn_before : {N F P : Type 0} → N → Kind F P → List (Drawn N P) → List (Drawn N P)
drawn_before n Waiting rest = rest
drawn_before n Done rest = rest
drawn_before n (Faulted f) rest = rest
drawn_before n (Instance p) rest = record { shape = n; solid = p } ∷ rest

-- the instances of a list of members
abbrev pub drawn : {N F P : Type 0} → List (Placed N F P) → List (Drawn N P)
drawn [] = []
drawn (m ∷ ms) = drawn_before m.shape m.kind (drawn ms)

-- the instance is a node
abbrev pub Draws : {N A F P : Type 0} → List (Node N A F P) → Drawn N P → Type 0
Draws {N} {A} {F} {P} nodes d = (a : A) × Keeps nodes d.shape (Instance d.solid) a

-- the instances of the one list together with came are, each as often, those of the other together
-- with went
abbrev pub Balances : {N F P : Type 0} → List (Placed N F P) → List (Drawn N P) → List (Placed N F P) → List (Drawn N P)
    → Type 0
Balances {N} {F} {P} before created after removed =
    (test : Drawn N P → Bool)
    → count_by test (drawn before) + count_by test created ≡ count_by test (drawn after) + count_by test removed

-- what went and what came from one list of nodes to another, each once
pub record IsChange {N A F P : Type 0} (before after : List (Node N A F P)) (removed created : List (Drawn N P)) : Type 0 where
  pub removed_once : Once removed
  pub created_once : Once created
  pub each_removed : (d : Drawn N P) → Among d removed → Draws before d × (Draws after d → ⊥)
  pub each_created : (d : Drawn N P) → Among d created → Draws after d × (Draws before d → ⊥)
  pub balance : Balances (members_of before) created (members_of after) removed

module _ {N A B F P : Type 0} (edit : Edit N A B F P) where
  abbrev pub Nodes : Type 0
  Nodes = List (Node N A F P)

  -- a child of a shape that was expanded
  abbrev pub IsMade : List N → N → Type 0
  IsMade worked n = (s : N) × (i : ℕ) × Among s worked × IsChild (edit.chain s) i (edit.chain n)

  -- the record between turns
  pub record IsRecord (start now : Nodes) (worked : List N) (gone come : List (Drawn N P)) : Type 0 where
    pub gone_once : Once gone
    pub come_once : Once come
    pub each_come : (d : Drawn N P) → Among d come → Draws now d × IsMade worked d.shape
    pub each_gone : (d : Drawn N P) → Among d gone
        → Draws start d × (Draws now d → IsMade worked d.shape)
        × ((q : N) (i : ℕ) → IsChild (edit.chain q) i (edit.chain d.shape)
        → Kept edit (members_of start) (members_of now) q → Among q worked)
    pub there : (d : Drawn N P) → Draws now d → Draws start d ⊎ IsMade worked d.shape
    pub balance : Balances (members_of start) come (members_of now) gone
