-- Ranked shapes: shapes with the priorities on their paths, as they were when they were placed. So
-- equal ones have equal stamps by old and new rules, and a node with its old priority is another
-- one than with its new. They make the edit of an agenda.
use Rattle.std.specs.Prelude.{ℕ, ◌+◌, List, [], ◌∷◌, ◌++◌, map, length, Result, Ok, Err}
use Rattle.cga_order.specs.Chain.{Chain}
use Rattle.cga_order.specs.World.{World}
use Rattle.cga_order.specs.declared.placed.Placed.{Placed}
use Rattle.cga_order.specs.declared.placed.Kind.{Kind}
use Rattle.cga_order.specs.declared.placed.Kind.TheVariants.{Waiting, Done, Faulted, Instance}
use Rattle.cga_agenda.specs.Edit.{Side, Edit}
use Rattle.cga_agenda.specs.Record.{Drawn}
use Rattle.cga_derivation.specs.Sites.{fitted}
use Rattle.cga_rework.specs.Rules.{Shapes, Rules}

-- the priorities are those from its root down, its own the last
pub record Ranked (S : Type 0) : Type 0 where
  pub shape : S
  pub priorities : List ℕ

-- a member without the priorities on its path
abbrev pub unranked : {S F P : Type 0} → Placed (Ranked S) F P → Placed S F P
unranked m = record { shape = m.shape.shape; kind = m.kind }

-- an instance without the priorities on its path
abbrev pub unranked_drawn : {S P : Type 0} → Drawn (Ranked S) P → Drawn S P
unranked_drawn d = record { shape = d.shape.shape; solid = d.solid }

abbrev last_from : ℕ → List ℕ → ℕ
last_from p [] = p
last_from p (q ∷ qs) = last_from q qs

-- the last number, if there is one
abbrev pub last_of : List ℕ → ℕ
last_of [] = 0
last_of (p ∷ ps) = last_from p ps

abbrev pub with_last_from : ℕ → ℕ → List ℕ → List ℕ
with_last_from last p [] = last ∷ []
with_last_from last p (q ∷ qs) = p ∷ with_last_from last q qs

-- the list with another last number, if it has one
abbrev pub with_last : ℕ → List ℕ → List ℕ
with_last last [] = []
with_last last (p ∷ ps) = with_last_from last p ps

-- a child below the given priorities: a symbol has its own, and an instance its parent's
abbrev pub placed_as : {S F P : Type 0} → (S → ℕ) → List ℕ → S → Kind F P → Placed (Ranked S) F P
placed_as priority above s Waiting =
    record { shape = record { shape = s; priorities = above ++ priority s ∷ [] }; kind = Waiting }
placed_as priority above s Done =
    record { shape = record { shape = s; priorities = above ++ priority s ∷ [] }; kind = Done }
placed_as priority above s (Faulted f) =
    record { shape = record { shape = s; priorities = above ++ priority s ∷ [] }; kind = Faulted f }
placed_as priority above s (Instance p) =
    record { shape = record { shape = s; priorities = above ++ last_of above ∷ [] }; kind = Instance p }

abbrev pub placed : {S F P : Type 0} → (S → ℕ) → List ℕ → Placed S F P → Placed (Ranked S) F P
placed priority above c = placed_as priority above c.shape c.kind

abbrev pub all_placed : {S F P : Type 0} → (S → ℕ) → List ℕ → Result (List (Placed S F P)) F
    → Result (List (Placed (Ranked S) F P)) F
all_placed priority above (Ok children) = Ok (map (placed priority above) children)
all_placed priority above (Err fault) = Err fault

-- a child with the priority of its symbol; an instance stays
abbrev pub renewed_as : {S F P : Type 0} → (S → ℕ) → Ranked S → Kind F P → Placed (Ranked S) F P
renewed_as priority n Waiting =
    record { shape = record { shape = n.shape; priorities = with_last (priority n.shape) n.priorities }; kind = Waiting }
renewed_as priority n Done =
    record { shape = record { shape = n.shape; priorities = with_last (priority n.shape) n.priorities }; kind = Done }
renewed_as priority n (Faulted f) =
    record { shape = record { shape = n.shape; priorities = with_last (priority n.shape) n.priorities }; kind = Faulted f }
renewed_as priority n (Instance p) = record { shape = n; kind = Instance p }

abbrev pub chain_of : {S : Type 0} → Shapes S → Ranked S → Chain
chain_of shapes n = record {
  lot = shapes.lot n.shape;
  path = shapes.path n.shape;
  priorities = fitted (length (shapes.path n.shape) + 1) n.priorities;
}

module _ {S A B F P : Type 0} (shapes : Shapes S) where
  -- one side of the edit
  abbrev pub side_of : Rules S A B F P → Side (Ranked S) A B F P
  side_of rules = record {
    roots = map (λ s. record { shape = s; priorities = rules.priority s ∷ [] }) rules.roots;
    sees = λ n m. rules.sees n.shape m.shape;
    answers = λ n existing waiting.
        rules.answers n.shape (map (λ m. m.shape) existing) (map (λ m. m.shape) waiting);
    setting = λ n. rules.setting n.shape;
    expand = λ n a. all_placed rules.priority (chain_of shapes n).priorities (rules.expand n.shape a);
  }

  -- the edit from old rules to new ones
  abbrev pub edit_of : Rules S A B F P → Rules S A B F P → Edit (Ranked S) A B F P
  edit_of old new = record {
    mode = shapes.mode;
    chain = chain_of shapes;
    old = side_of old;
    new = side_of new;
    renew = λ c. renewed_as new.priority c.shape c.kind;
  }

  -- the world of the derivation by these rules
  abbrev pub ranked_world : Rules S A B F P → World (Ranked S) A F P
  ranked_world rules = record {
    mode = shapes.mode;
    chain = chain_of shapes;
    roots = map (λ s. record { shape = s; priorities = rules.priority s ∷ [] }) rules.roots;
    sees = λ n m. rules.sees n.shape m.shape;
    answers = λ n existing waiting.
        rules.answers n.shape (map (λ m. m.shape) existing) (map (λ m. m.shape) waiting);
    expand = λ n a. all_placed rules.priority (chain_of shapes n).priorities (rules.expand n.shape a);
  }
