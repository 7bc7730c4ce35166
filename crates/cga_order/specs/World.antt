-- What a derivation is run over: any shapes that have chains, see one another, and expand by what
-- they see.
use Rattle.std.specs.Prelude.{◌≡◌, ◌≢◌, ℕ, List, [], ◌∷◌, Bool, true, false, ◌⊎◌, Some, Result, Ok, slice_get, if◌then◌else◌}
use Rattle.std.specs.declared.cmp.Ordering.TheVariants.{Less}
use Rattle.cga_word.specs.declared.mode.Mode.{Mode}
use Rattle.cga_order.specs.Rank.{Rank}
use Rattle.cga_order.specs.Chain.{Chain, IsWhole, IsChild}
use Rattle.cga_order.specs.Stamp.{stamp, birth, stamps_cmp}
pub use Rattle.cga_order.specs.declared.placed.Kind.{Kind}
pub use Rattle.cga_order.specs.declared.placed.Kind.TheVariants.{Waiting, Done, Faulted, Instance}
pub use Rattle.cga_order.specs.declared.placed.Placed.{Placed}

-- shapes N with their chains, answers A, faults F and solids P
pub record World (N A F P : Type 0) : Type 0 where
  pub mode : Mode
  pub chain : N → Chain
  pub roots : List N
  -- whether the first, when it asks, compares the second
  pub sees : N → N → Bool
  -- the answers of a shape, given the shapes that exist and those of them that wait
  pub answers : N → List N → List N → A
  -- the children of a shape with these answers, in order
  pub expand : N → A → Result (List (Placed N F P)) F

abbrev pub is_waiting : {F P : Type 0} → Kind F P → Bool
is_waiting Waiting = true
is_waiting Done = false
is_waiting (Faulted f) = false
is_waiting (Instance p) = false

abbrev pub is_instance : {F P : Type 0} → Kind F P → Bool
is_instance Waiting = false
is_instance Done = false
is_instance (Faulted f) = false
is_instance (Instance p) = true

-- a child is new: it waits, or is an instance
abbrev pub IsNew : {F P : Type 0} → Kind F P → Type 0
IsNew {P = P} kind = (kind ≡ Waiting) ⊎ ((p : P) × (kind ≡ Instance p))

-- the shape is a member of this kind
abbrev pub Has : {N F P : Type 0} → List (Placed N F P) → N → Kind F P → Type 0
Has [] n kind = ⊥
Has (m ∷ ms) n kind = ((m.shape ≡ n) × (m.kind ≡ kind)) ⊎ Has ms n kind

abbrev pub Among : {N : Type 0} → N → List N → Type 0
Among n [] = ⊥
Among n (m ∷ ms) = (m ≡ n) ⊎ Among n ms

-- the shapes of the members that pass a test
abbrev pub shapes_where : {N F P : Type 0} → (N → Kind F P → Bool) → List (Placed N F P) → List N
shapes_where test [] = []
shapes_where test (m ∷ ms) =
    if test m.shape m.kind then m.shape ∷ shapes_where test ms else shapes_where test ms

module _ {N A F P : Type 0} (world : World N A F P) where
  -- a shape's lot and path
  abbrev pub place_of : N → List ℕ × List ℕ
  place_of n = ((world.chain n).lot, (world.chain n).path)

  abbrev pub stamp_of : N → List Rank
  stamp_of n = stamp world.mode (world.chain n)

  -- the stamp of its parent, at which it was made; a root's is before every stamp
  abbrev pub birth_of : N → List Rank
  birth_of n = birth world.mode (world.chain n)

  abbrev pub IsEarlier : List Rank → List Rank → Type 0
  IsEarlier a b = stamps_cmp world.mode a b ≡ Less

  -- of what n sees, both lists have the same
  abbrev pub SameSeen : N → List N → List N → Type 0
  SameSeen n xs ys =
      (m : N) → world.sees n m ≡ true → (Among m xs → Among m ys) × (Among m ys → Among m xs)

  pub record IsWorld : Type 0 where
    pub whole : (n : N) → IsWhole (world.chain n)
    pub root : (n : N) → Among n world.roots → (world.chain n).path ≡ []
    -- roots at two indices of the list have two places
    pub roots_apart : (i j : ℕ) (n m : N) → slice_get world.roots i ≡ Some n
        → slice_get world.roots j ≡ Some m → place_of n ≡ place_of m → i ≡ j
    -- child i of a shape stands at i below it
    pub child : (s : N) (a : A) (children : List (Placed N F P)) → world.expand s a ≡ Ok children
        → (i : ℕ) (c : Placed N F P) → slice_get children i ≡ Some c
        → IsChild (world.chain s) i (world.chain c.shape) × IsNew c.kind
    -- nothing that stands where a shape stands is seen by it
    pub unseen : (n m : N) → world.sees n m ≡ true → place_of m ≢ place_of n
    -- answers depend only on which of the shapes that are seen exist, and wait
    pub local : (n : N) (existing waiting existing' waiting' : List N)
        → SameSeen n existing existing' → SameSeen n waiting waiting'
        → world.answers n existing waiting ≡ world.answers n existing' waiting'
