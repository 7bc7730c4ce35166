-- An edit, from an old derivation to a new one of the same mode, and which shapes it touches. A shape N
-- has the priorities on its path within it: where one of them changes, it is another shape.
use Rattle.std.specs.Prelude.{◌≡◌, ℕ, zero, suc, List, [], map, Bool, true, false, ◌⊎◌, Result, Ok, Err}
use Rattle.cga_word.specs.declared.mode.Mode.{Mode}
use Rattle.cga_order.specs.Chain.{Chain, IsChild}
use Rattle.cga_order.specs.World.{World, IsWorld, Has, shapes_where, is_instance}
use Rattle.cga_order.specs.declared.placed.Placed.{Placed}
use Rattle.cga_order.specs.declared.placed.Kind.{Kind}
use Rattle.cga_order.specs.Consistent.{exists_at, waits_at}

-- one side of an edit: what the old derivation, or the new one, takes from its sources
pub record Side (N A B F P : Type 0) : Type 0 where
  pub roots : List N
  pub sees : N → N → Bool
  pub answers : N → List N → List N → A
  -- what a shape reads beside its answers: its group, and the values of the attributes it mentions
  pub setting : N → B
  pub expand : N → A → Result (List (Placed N F P)) F

-- both sides, over the same chains
pub record Edit (N A B F P : Type 0) : Type 0 where
  pub mode : Mode
  pub chain : N → Chain
  pub old : Side N A B F P
  pub new : Side N A B F P
  -- a child with the priority that its symbol has on the new side
  pub renew : Placed N F P → Placed N F P

-- the world of the derivation of a side
abbrev pub world_of : {N A B F P : Type 0} → Edit N A B F P → Side N A B F P → World N A F P
world_of edit side = record {
  mode = edit.mode;
  chain = edit.chain;
  roots = side.roots;
  sees = side.sees;
  answers = side.answers;
  expand = side.expand;
}

abbrev pub old_world : {N A B F P : Type 0} → Edit N A B F P → World N A F P
old_world edit = world_of edit edit.old

abbrev pub new_world : {N A B F P : Type 0} → Edit N A B F P → World N A F P
new_world edit = world_of edit edit.new

-- an outcome whose children have the new priorities
abbrev pub renewed : {N F P : Type 0} → (Placed N F P → Placed N F P) → Result (List (Placed N F P)) F
    → Result (List (Placed N F P)) F
renewed renew (Ok children) = Ok (map renew children)
renewed renew (Err fault) = Err fault

-- the answers of n over what exists, and waits, at its stamp
abbrev pub answers_at : {N A F P : Type 0} → World N A F P → List (Placed N F P) → N → A
answers_at world list n =
    world.answers n (shapes_where (exists_at world n) list) (shapes_where (waits_at world n) list)

-- the shape is a member that is no instance
abbrev pub NonInstance : {N F P : Type 0} → List (Placed N F P) → N → Type 0
NonInstance {N} {F} {P} list n = (k : Kind F P) × Has list n k × (is_instance k ≡ false)

module _ {N A B F P : Type 0} (edit : Edit N A B F P) where
  -- what both sides have to meet
  pub record IsEdit : Type 0 where
    pub old : IsWorld (old_world edit)
    pub new : IsWorld (new_world edit)
    -- answers and outcome are a function of the shape, its setting and its answers, but for the
    -- priorities of its children
    pub answers : (n : N) (existing waiting : List N) → edit.old.setting n ≡ edit.new.setting n
        → edit.old.answers n existing waiting ≡ edit.new.answers n existing waiting
    pub outcome : (n : N) (a : A) → edit.old.setting n ≡ edit.new.setting n
        → edit.new.expand n a ≡ renewed edit.renew (edit.old.expand n a)
    -- a child stays of its kind
    pub kinds : (c : Placed N F P) → (edit.renew c).kind ≡ c.kind
    -- an instance stays, since it has its parent's priority
    pub solids : (c : Placed N F P) → is_instance c.kind ≡ true → edit.renew c ≡ c

  -- n is a root, or so many levels below one, and it and each of its ancestors is a non-instance of both
  -- lists
  abbrev pub KeptAt : List (Placed N F P) → List (Placed N F P) → ℕ → N → Type 0
  KeptAt old new zero n = NonInstance old n × NonInstance new n × ((edit.chain n).path ≡ [])
  KeptAt old new (suc depth) n =
      NonInstance old n × NonInstance new n
      × ((parent : N) × (i : ℕ) × IsChild (edit.chain parent) i (edit.chain n)
      × KeptAt old new depth parent)

  -- kept: it and each of its ancestors is a non-instance of both lists
  abbrev pub Kept : List (Placed N F P) → List (Placed N F P) → N → Type 0
  Kept old new n = (depth : ℕ) × KeptAt old new depth n

  -- its setting is equal, and its answers at its own step are
  abbrev pub SameInputs : List (Placed N F P) → List (Placed N F P) → N → Type 0
  SameInputs old new n =
      (edit.old.setting n ≡ edit.new.setting n)
      × (answers_at (old_world edit) old n ≡ answers_at (new_world edit) new n)

  -- a non-instance of the new list that isn't kept, or is kept and has other inputs
  abbrev pub Touched : List (Placed N F P) → List (Placed N F P) → N → Type 0
  Touched old new n =
      NonInstance new n
      × ((Kept old new n → ⊥) ⊎ (Kept old new n × (SameInputs old new n → ⊥)))
