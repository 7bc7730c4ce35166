-- A kept list whose members are right, but for those on an agenda; and one turn of the agenda.
use Rattle.std.specs.Prelude.{◌≡◌, ◌≢◌, ℕ, List, [], ◌∷◌, map, Bool, true, false, ◌⊎◌, Result, Ok, Err}
use Rattle.cga_order.specs.Chain.{IsChild}
use Rattle.cga_order.specs.World.{World, Placed, Kind, Waiting, Done, Faulted, Has, Among, shapes_where, is_instance, IsEarlier, stamp_of, birth_of, place_of}
use Rattle.cga_order.specs.Consistent.{exists_at, waits_at, Stands}

-- a member that keeps the answers that it got when it was last expanded
pub record Node (N A F P : Type 0) : Type 0 where
  pub shape : N
  pub kind : Kind F P
  pub answers : A

-- the members that nodes are
abbrev pub members_of : {N A F P : Type 0} → List (Node N A F P) → List (Placed N F P)
members_of nodes = map (λ m. record { shape = m.shape; kind = m.kind }) nodes

-- the shape is a node of this kind with these answers
abbrev pub Keeps : {N A F P : Type 0} → List (Node N A F P) → N → Kind F P → A → Type 0
Keeps [] n kind answers = ⊥
Keeps (m ∷ ms) n kind answers =
    ((m.shape ≡ n) × (m.kind ≡ kind) × (m.answers ≡ answers)) ⊎ Keeps ms n kind answers

module _ {N A F P : Type 0} (world : World N A F P) where
  abbrev pub Nodes : Type 0
  Nodes = List (Node N A F P)

  -- the answers of n over what exists, and waits, at its stamp
  abbrev pub asked : Nodes → N → A
  asked nodes n =
      world.answers n
      (shapes_where (exists_at world n) (members_of nodes))
      (shapes_where (waits_at world n) (members_of nodes))

  -- the nodes right below n are these children
  pub record HasChildren (nodes : Nodes) (n : N) (children : List (Placed N F P)) : Type 0 where
    pub all : (c : N) (k : Kind F P) → Has children c k → Stands (members_of nodes) c k
    pub only : (c : N) (k : Kind F P) (a : A) → Keeps nodes c k a → (i : ℕ) → IsChild (world.chain n) i (world.chain c)
        → (j : Kind F P) × Has children c j

  -- the node's kind and its children are those of an outcome
  abbrev pub IsSettled : Nodes → N → Kind F P → Result (List (Placed N F P)) F → Type 0
  IsSettled nodes n kind (Ok children) = (kind ≡ Done) × HasChildren nodes n children
  IsSettled nodes n kind (Err fault) = (kind ≡ Faulted fault) × HasChildren nodes n []

  -- a node is right when its answers are those at its stamp, and all else follows from them
  abbrev pub IsRight : Nodes → N → Kind F P → A → Type 0
  IsRight nodes n kind answers =
      (answers ≡ asked nodes n) × IsSettled nodes n kind (world.expand n answers)

  -- each node is an instance, or on the agenda, or right
  abbrev pub AllRight : Nodes → (N → Bool) → Type 0
  AllRight nodes queued =
      (n : N) (k : Kind F P) (a : A) → Keeps nodes n k a → is_instance k ≡ false
      → (queued n ≡ true) ⊎ IsRight nodes n k a

  -- each non-instance that comes after s and sees m is on the agenda
  abbrev pub QueuesWhatSees : Nodes → N → N → (N → Bool) → Type 0
  QueuesWhatSees after s m queued =
      (n : N) (k : Kind F P) (a : A) → Keeps after n k a → is_instance k ≡ false
      → IsEarlier world (stamp_of world s) (stamp_of world n) → world.sees n m ≡ true
      → queued n ≡ true

  -- a node that came: a child of s, on the agenda unless it is an instance, as is what sees it
  abbrev pub Created : Nodes → N → N → Kind F P → (N → Bool) → Type 0
  Created after s m kind queued =
      ((i : ℕ) × IsChild (world.chain s) i (world.chain m))
      × (is_instance kind ≡ false → queued m ≡ true)
      × QueuesWhatSees after s m queued

  -- a node that went: made at the stamp of s or later, a child of s or of no node that stays, and
  -- what sees it is on the agenda
  pub record Removed (s m : N) (before after : Nodes) (queued : N → Bool) : Type 0 where
    pub late : IsEarlier world (birth_of world m) (stamp_of world s) → ⊥
    pub below : (p : N) (i : ℕ) → IsChild (world.chain p) i (world.chain m)
        → (place_of world p ≡ place_of world s)
        ⊎ ((k : Kind F P) (a : A) → Keeps before p k a → Keeps after p k a → ⊥)
    pub seen : QueuesWhatSees after s m queued

  -- a node that is still there: an instance as itself, and any other in some kind
  abbrev pub Remains : Nodes → N → Kind F P → Type 0
  Remains after n kind =
      (now : Kind F P) × (a : A) × Keeps after n now a
      × (is_instance now ≡ is_instance kind) × (is_instance kind ≡ true → now ≡ kind)

  -- one turn, which asks s again and expands it anew where its answers changed
  pub record IsTurn (before after : Nodes) (s : N) (queued requeued : N → Bool) : Type 0 where
    pub was : (k : Kind F P) × (a : A) × Keeps before s k a × (is_instance k ≡ false)
    pub now : (k : Kind F P) (a : A) → Keeps after s k a
        → (is_instance k ≡ false) × (a ≡ asked before s) × IsSettled after s k (world.expand s a)
    pub alone : (n : N) (k : Kind F P) (a : A) → Keeps after n k a
        → place_of world n ≡ place_of world s → n ≡ s
    -- each other node stayed as it was, or came; and each that was there remains, or went
    pub from : (m : N) (k : Kind F P) (a : A) → Keeps after m k a → m ≢ s
        → Keeps before m k a ⊎ Created after s m k requeued
    pub to : (m : N) (k : Kind F P) (a : A) → Keeps before m k a
        → Remains after m k ⊎ Removed s m before after requeued
    -- nothing but s leaves the agenda
    pub queued_still : (m : N) (k : Kind F P) (a : A) → Keeps after m k a → is_instance k ≡ false → m ≢ s
        → queued m ≡ true → requeued m ≡ true

  -- a node right below a node that is no instance
  abbrev pub HasParent : Nodes → N → Type 0
  HasParent nodes n =
      (s : N) × (j : Kind F P) × (b : A) × (i : ℕ)
      × Keeps nodes s j b × (is_instance j ≡ false) × IsChild (world.chain s) i (world.chain n)

  -- what a kept list is beside its answers
  pub record IsTree (nodes : Nodes) : Type 0 where
    pub distinct : (n m : N) (k j : Kind F P) (a b : A) → Keeps nodes n k a → Keeps nodes m j b
        → place_of world n ≡ place_of world m → (n ≡ m) × (k ≡ j)
    pub roots : (n : N) → Among n world.roots → Remains nodes n Waiting
    pub under : (n : N) (k : Kind F P) (a : A) → Keeps nodes n k a
        → Among n world.roots ⊎ HasParent nodes n

  -- the agenda's next shape: it is on the agenda, and every other node there comes after it
  pub record IsNext (nodes : Nodes) (s : N) (queued : N → Bool) : Type 0 where
    pub there : queued s ≡ true
    pub first : (m : N) (k : Kind F P) (a : A) → Keeps nodes m k a → queued m ≡ true
        → place_of world m ≢ place_of world s → IsEarlier world (stamp_of world s) (stamp_of world m)

  -- after the turn of s a node is on the agenda only if it was, or is a child of s, or comes after s
  abbrev pub QueuesOnly : Nodes → Nodes → N → (N → Bool) → (N → Bool) → Type 0
  QueuesOnly before after s queued requeued =
      (m : N) (k : Kind F P) (a : A) → Keeps after m k a → requeued m ≡ true
      → (Keeps before m k a × (queued m ≡ true) × (place_of world m ≢ place_of world s))
      ⊎ (((i : ℕ) × IsChild (world.chain s) i (world.chain m))
      ⊎ IsEarlier world (stamp_of world s) (stamp_of world m))

  -- the kept list and the agenda after the turns of these shapes, the last first
  abbrev pub Worked : Nodes → (N → Bool) → List N → Nodes → (N → Bool) → Type 0
  Worked start queued [] nodes now = (nodes ≡ start) × (now ≡ queued)
  Worked start queued (s ∷ turned) nodes now =
      (before : Nodes) × (then : N → Bool) × Worked start queued turned before then
      × IsNext before s then × IsTurn before nodes s then now × QueuesOnly before nodes s then now
