-- What the work of an edit starts from, and what it leaves, over the lists of two derivations.
use Rattle.std.specs.Prelude.{◌≡◌, ℕ, ◌+◌, ◌<◌, List, [], ◌∷◌, ◌++◌, map, length, Bool, false, None, count_by}
use Rattle.cga_order.specs.World.{Has, Among, is_instance}
use Rattle.cga_order.specs.declared.placed.Placed.{Placed}
use Rattle.cga_order.specs.declared.placed.Kind.{Kind}
use Rattle.cga_order.specs.declared.placed.Kind.TheVariants.{Instance}
use Rattle.cga_order.specs.Consistent.{SameMembers}
use Rattle.cga_order.specs.Agenda.{Node, members_of, Keeps}
use Rattle.cga_derivation.specs.Derivation.{derive}
use Rattle.cga_agenda.specs.Edit.{NonInstance}
use Rattle.cga_order.specs.Once.{Once}
use Rattle.cga_agenda.specs.Record.{Drawn, drawn}
use Rattle.cga_rework.specs.Rules.{Shapes, Rules, derivation_of}
use Rattle.cga_rework.specs.Ranked.{Ranked, unranked, unranked_drawn}
use Rattle.cga_rework.specs.Touched.{Answered, Kept, SameInputs, Touched}

-- nodes stand for a derivation: they are its members, and each that is no instance keeps the answers
-- of its own step, and the priority of its symbol
pub record StandsFor {S A B F P : Type 0} (shapes : Shapes S) (rules : Rules S A B F P) (nodes : List (Node (Ranked S) A F P)) (list : List (Placed S F P)) : Type 0 where
  pub members : SameMembers (map unranked (members_of nodes)) list
  pub answers : (n : Ranked S) (k : Kind F P) (a : A) → Keeps nodes n k a → is_instance k ≡ false
      → Answered (derivation_of shapes rules) n.shape a
  pub priorities : (n : Ranked S) (k : Kind F P) (a : A) → Keeps nodes n k a → is_instance k ≡ false
      → (above : List ℕ) × (n.priorities ≡ above ++ rules.priority n.shape ∷ [])

-- s stands where child i of the parent does
abbrev pub IsBelow : {S : Type 0} → Shapes S → S → ℕ → S → Type 0
IsBelow shapes parent i s = (shapes.lot s ≡ shapes.lot parent) × (shapes.path s ≡ shapes.path parent ++ i ∷ [])

-- the nodes that the work of an edit leaves, and the shapes that were expanded in it, over the lists of
-- the two derivations
pub record IsExactWork {S A B F P : Type 0} (shapes : Shapes S) (old new : Rules S A B F P)
    (now : List (Node (Ranked S) A F P)) (worked : List (Ranked S)) (before after : List (Placed S F P)) : Type 0 where
  -- the nodes are the members of the new derivation
  pub members : SameMembers (map unranked (members_of now)) after
  -- what was expanded is what is touched, each once
  pub once : Once (map (λ n. n.shape) worked)
  pub touched : (s : S)
      → (Among s (map (λ n. n.shape) worked) → Touched shapes old new before after s)
      × (Touched shapes old new before after s → Among s (map (λ n. n.shape) worked))
  -- so there are as many of them as there are touched shapes
  pub count : (list : List S) → Once list
      → ((s : S) → (Among s list → Touched shapes old new before after s)
      × (Touched shapes old new before after s → Among s list))
      → length worked ≡ length list

-- an exact rework with the record of change: the instances that were removed and created
pub record IsExactRework {S A B F P : Type 0} (shapes : Shapes S) (old new : Rules S A B F P)
    (now : List (Node (Ranked S) A F P)) (worked : List (Ranked S)) (gone come : List (Drawn (Ranked S) P)) (before after : List (Placed S F P)) : Type 0 where
  pub work : IsExactWork shapes old new now worked before after
  -- there are as many nodes as members
  pub size : length now ≡ length after
  -- the new derivation is over the budget where there are more nodes
  pub budget : (budget : ℕ)
      → (derive (derivation_of shapes new) budget ≡ None → budget < length now)
      × (budget < length now → derive (derivation_of shapes new) budget ≡ None)
  -- each is named once
  pub gone_once : Once (map unranked_drawn gone)
  pub come_once : Once (map unranked_drawn come)
  -- what came is an instance of the new derivation, and a child of a touched shape
  pub each_come : (d : Drawn (Ranked S) P) → Among d come
      → Has after d.shape.shape (Instance d.solid)
      × ((parent : S) × (i : ℕ) × IsBelow shapes parent i d.shape.shape × Touched shapes old new before after parent)
  -- what went is an instance of the old derivation, and no child of a kept shape of equal inputs
  pub each_gone : (d : Drawn (Ranked S) P) → Among d gone
      → Has before d.shape.shape (Instance d.solid)
      × ((parent : S) (i : ℕ) → NonInstance after parent → IsBelow shapes parent i d.shape.shape
      → Kept shapes old new before after parent → SameInputs shapes old new parent → ⊥)
  -- both account for the instances before and after, each as often
  pub balance : (test : Drawn S P → Bool)
      → count_by test (drawn before) + count_by test (map unranked_drawn come)
      ≡ count_by test (drawn after) + count_by test (map unranked_drawn gone)
