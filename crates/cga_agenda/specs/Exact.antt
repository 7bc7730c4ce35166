-- What the work of an edit leaves when nothing is on the agenda, over the nodes that it started from
-- and those that there are now.
use Rattle.std.specs.Prelude.{ℕ, List, None}
use Rattle.cga_order.specs.Chain.{IsChild}
use Rattle.cga_order.specs.World.{Among}
use Rattle.cga_order.specs.Consistent.{IsConsistent}
use Rattle.cga_order.specs.Agenda.{Node, members_of}
use Rattle.cga_agenda.specs.Edit.{Edit, new_world, Kept, SameInputs, Touched}
use Rattle.cga_order.specs.Once.{Once}
use Rattle.cga_agenda.specs.Record.{Drawn, Draws, Balances}

module _ {N A B F P : Type 0} (edit : Edit N A B F P) (start now : List (Node N A F P)) where
  -- the nodes are consistent, and the shapes that were expanded are those touched, each once
  pub record IsExact (worked : List N) : Type 0 where
    pub consistent : IsConsistent (new_world edit) None (members_of now)
    pub once : Once worked
    pub touched : (n : N) → Among n worked → Touched edit (members_of start) (members_of now) n
    pub all : (n : N) → Touched edit (members_of start) (members_of now) n → Among n worked

  -- the record of change
  pub record IsExactRecord (gone come : List (Drawn N P)) : Type 0 where
    -- each is named once
    pub gone_once : Once gone
    pub come_once : Once come
    -- what came is an instance, and a child of a touched shape
    pub each_come : (d : Drawn N P) → Among d come
        → Draws now d × ((parent : N) × (i : ℕ) × IsChild (edit.chain parent) i (edit.chain d.shape)
        × Touched edit (members_of start) (members_of now) parent)
    -- what went was an instance, and is no child of a kept shape of equal inputs
    pub each_gone : (d : Drawn N P) → Among d gone
        → Draws start d × ((parent : N) (i : ℕ) → IsChild (edit.chain parent) i (edit.chain d.shape)
        → Kept edit (members_of start) (members_of now) parent
        → SameInputs edit (members_of start) (members_of now) parent → ⊥)
    -- both account for the instances before and after, each as often
    pub balance : Balances (members_of start) come (members_of now) gone
