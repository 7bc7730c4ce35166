-- The work of an edit by an agenda: what it starts from, how it begins, one turn, and what holds
-- between turns.
use Rattle.std.specs.Prelude.{◌≡◌, ◌≢◌, ◌↔◌, ℕ, List, length, map, [], ◌∷◌, Bool, true, false, ◌⊎◌}
use Rattle.cga_order.specs.Chain.{IsChild}
use Rattle.cga_order.specs.Once.{Once}
use Rattle.cga_order.specs.World.{Among, is_waiting, is_instance, IsNew, IsEarlier, stamp_of}
use Rattle.cga_order.specs.declared.placed.Placed.{Placed}
use Rattle.cga_order.specs.declared.placed.Kind.{Kind}
use Rattle.cga_order.specs.declared.placed.Kind.TheVariants.{Waiting, Done, Faulted, Instance}
use Rattle.cga_order.specs.Consistent.{Stands}
use Rattle.cga_order.specs.Agenda.{Node, members_of, Keeps, asked, IsSettled, AllRight, Created, Remains, Removed, IsTree, IsNext, QueuesOnly}
use Rattle.cga_agenda.specs.Edit.{Edit, old_world, new_world, renewed, Kept}

-- of so many P holds: as many as a list has that names just these, each once
module _ {X : Type 0} where
  abbrev pub AreSoMany : (X → Type 0) → ℕ → Type 0
  AreSoMany P n = (list : List X) × Once list × ((x : X) → Among x list ↔ P x) × (n ≡ length list)

-- the shapes that were expanded, after a turn that tells so
abbrev pub next_worked : {N : Type 0} → N → Bool → List N → List N
next_worked s true worked = s ∷ worked
next_worked s false worked = worked

-- each node stands once
abbrev pub StandOnce : {N A F P : Type 0} → List (Node N A F P) → Type 0
StandOnce nodes = Once (map (λ m. m.shape) (members_of nodes))

-- the kind that a node had when it was made
abbrev pub first_kind : {F P : Type 0} → Kind F P → Kind F P
first_kind Waiting = Waiting
first_kind Done = Waiting
first_kind (Faulted f) = Waiting
first_kind (Instance p) = Instance p

module _ {N A B F P : Type 0} (edit : Edit N A B F P) where
  abbrev pub Nodes : Type 0
  Nodes = List (Node N A F P)

  -- a node that came: it waits or is an instance, nothing stands below it, and it wasn't there
  pub record IsFresh (before after : Nodes) (n : N) (k : Kind F P) : Type 0 where
    pub new : IsNew k
    pub bare : (i : ℕ) (m : N) (j : Kind F P) (a : A) → IsChild (edit.chain n) i (edit.chain m)
        → Keeps after m j a → ⊥
    pub not_there : (j : Kind F P) (a : A) → Keeps before n j a → is_instance j ≡ is_instance k
        → (is_instance k ≡ true → j ≡ k) → ⊥

  -- each node that sees m is on the agenda, whatever its stamp
  abbrev pub SeenQueued : Nodes → N → (N → Bool) → Type 0
  SeenQueued nodes m queued =
      (n : N) (k : Kind F P) (a : A) → Keeps nodes n k a → is_instance k ≡ false
      → edit.new.sees n m ≡ true → queued n ≡ true

  -- nothing that is there is on the agenda
  abbrev pub NoneQueued : Nodes → (N → Bool) → Type 0
  NoneQueued nodes queued =
      (n : N) (k : Kind F P) (a : A) → Keeps nodes n k a → queued n ≡ false

  -- what the work starts from: the nodes of the old derivation, each right
  pub record IsStart (start : Nodes) : Type 0 where
    pub tree : IsTree (old_world edit) start
    pub right : AllRight (old_world edit) start (λ n. false)

  -- the roots went and came, and the agenda begins
  pub record IsBegun (start nodes : Nodes) (queued : N → Bool) : Type 0 where
    pub tree : IsTree (new_world edit) nodes
    -- each node was there, or is a root that came
    pub from : (m : N) (k : Kind F P) (a : A) → Keeps nodes m k a
        → Keeps start m k a
        ⊎ (Among m edit.new.roots × (k ≡ Waiting) × (queued m ≡ true) × IsFresh start nodes m k
        × SeenQueued nodes m queued)
    -- each node that was there stays, or goes with its parent, if it has one
    pub to : (m : N) (k : Kind F P) (a : A) → Keeps start m k a
        → Keeps nodes m k a
        ⊎ (((p : N) (i : ℕ) → IsChild (edit.chain p) i (edit.chain m)
        → (j : Kind F P) (b : A) → Keeps start p j b → Keeps nodes p j b → ⊥)
        × SeenQueued nodes m queued)
    -- a node whose setting changed, or a child of which has another priority, is on the agenda
    pub changed : (n : N) (k : Kind F P) (a : A) → Keeps nodes n k a → is_instance k ≡ false
        → (queued n ≡ true)
        ⊎ ((edit.old.setting n ≡ edit.new.setting n)
        × (renewed edit.renew (edit.old.expand n a) ≡ edit.old.expand n a))

  -- the turn of s, of this kind with these answers, that calls expand: it waits, or its inputs differ
  pub record Expands (before after : Nodes) (s : N) (k : Kind F P) (a : A) : Type 0 where
    pub must : (k ≡ Waiting)
        ⊎ ((edit.old.setting s ≡ edit.new.setting s) × (a ≡ asked (new_world edit) before s) → ⊥)
    pub now : (j : Kind F P) (b : A) → Keeps after s j b
        → (is_instance j ≡ false) × (b ≡ asked (new_world edit) before s)
        × IsSettled (new_world edit) after s j (edit.new.expand s b)

  -- a child, as its parent made it, with its new priority
  abbrev pub renewed_child : N → Kind F P → Placed N F P
  renewed_child n k = edit.renew (record { shape = n; kind = first_kind k })

  -- the children of s are those that it had, with their new priorities
  pub record HasRenewed (before after : Nodes) (s : N) : Type 0 where
    pub all : (c : N) (k : Kind F P) (a : A) (i : ℕ) → Keeps before c k a
        → IsChild (edit.chain s) i (edit.chain c)
        → Stands (members_of after) (renewed_child c k).shape (renewed_child c k).kind
    pub only : (c : N) (k : Kind F P) (a : A) (i : ℕ) → Keeps after c k a
        → IsChild (edit.chain s) i (edit.chain c)
        → (m : N) × (j : Kind F P) × (b : A) × (l : ℕ) × Keeps before m j b
        × IsChild (edit.chain s) l (edit.chain m) × ((renewed_child m j).shape ≡ c)

  -- the turn that doesn't: its inputs are equal, and its children get their new priorities
  pub record Places (before after : Nodes) (s : N) (k : Kind F P) (a : A) : Type 0 where
    pub done : is_waiting k ≡ false
    pub setting : edit.old.setting s ≡ edit.new.setting s
    pub asks : a ≡ asked (new_world edit) before s
    pub still : (j : Kind F P) (b : A) → Keeps after s j b → (j ≡ k) × (b ≡ a)
    pub children : HasRenewed before after s

  -- one turn of the least stamp on the agenda, which tells whether it called expand
  pub record IsTurnOf (before after : Nodes) (s : N) (queued requeued : N → Bool) (expanded : Bool) : Type 0 where
    pub next : IsNext (new_world edit) before s queued
    pub was : (k : Kind F P) × (a : A) × Keeps before s k a × (is_instance k ≡ false)
        × (((expanded ≡ true) × Expands before after s k a)
        ⊎ ((expanded ≡ false) × Places before after s k a))
    pub tree : IsTree (new_world edit) after
    pub from : (m : N) (k : Kind F P) (a : A) → Keeps after m k a → m ≢ s
        → Keeps before m k a ⊎ (Created (new_world edit) after s m k requeued × IsFresh before after m k)
    pub to : (m : N) (k : Kind F P) (a : A) → Keeps before m k a
        → Remains (new_world edit) after m k ⊎ Removed (new_world edit) s m before after requeued
    pub queued_still : (m : N) (k : Kind F P) (a : A) → Keeps after m k a → is_instance k ≡ false → m ≢ s
        → queued m ≡ true → requeued m ≡ true
    pub queues_only : QueuesOnly (new_world edit) before after s queued requeued

  -- setting and answers that aren't those of the old list
  abbrev pub Differs : Nodes → N → A → Type 0
  Differs start n answers =
      (edit.old.setting n ≡ edit.new.setting n) × (asked (old_world edit) start n ≡ answers) → ⊥

  -- a node that was expanded in this work: it isn't kept, or its inputs differ
  abbrev pub IsReworked : Nodes → Nodes → N → Kind F P → A → Type 0
  IsReworked start now n kind answers =
      (is_instance kind ≡ false)
      × ((Kept edit (members_of start) (members_of now) n → ⊥)
      ⊎ (Kept edit (members_of start) (members_of now) n × Differs start n answers))

  -- a node that was neither expanded in this work nor waits is as it was
  pub record IsOld (start now : Nodes) (queued : N → Bool) (turned : List N) (n : N) (kind : Kind F P) (answers : A) : Type 0 where
    pub kept : Kept edit (members_of start) (members_of now) n
    pub same : Keeps start n kind answers
    pub setting : (queued n ≡ true) ⊎ (edit.old.setting n ≡ edit.new.setting n)
    -- it has its old children, unless it had its turn
    pub children : Among n turned ⊎ IsSettled (old_world edit) now n kind (edit.old.expand n answers)

  -- what holds between turns: turned are the shapes that had their turn, worked those of them that
  -- were expanded
  pub record IsWorking (start now : Nodes) (queued : N → Bool) (turned worked : List N) : Type 0 where
    pub tree : IsTree (new_world edit) now
    pub right : AllRight (new_world edit) now queued
    pub later : (t : N) → Among t turned → (m : N) (k : Kind F P) (a : A) → Keeps now m k a
        → queued m ≡ true → IsEarlier (new_world edit) (stamp_of (new_world edit) t) (stamp_of (new_world edit) m)
    pub turns_once : Once turned
    pub stays : (t : N) → Among t turned
        → (k : Kind F P) × (a : A) × Keeps now t k a × (is_instance k ≡ false)
    pub once : Once worked
    pub expanded : (x : N) → Among x worked
        → Among x turned × ((k : Kind F P) (a : A) → Keeps now x k a → IsReworked start now x k a)
    pub waiting : (n : N) (k : Kind F P) (a : A) → Keeps now n k a → k ≡ Waiting
        → Kept edit (members_of start) (members_of now) n → ⊥
    pub others : (n : N) (k : Kind F P) (a : A) → Keeps now n k a → is_instance k ≡ false
        → is_waiting k ≡ false → Among n worked ⊎ IsOld start now queued turned n k a
