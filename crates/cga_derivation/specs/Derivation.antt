-- The derivation, in the words of its definition: one plain list of members, of which at each step
-- the waiting one of least rank is expanded.
use Rattle.std.specs.Prelude.{◌≡◌, ◌≢◌, ℕ, zero, suc, List, [], ◌∷◌, ◌++◌, map, Bool, true, not, ◌&&◌, Option, Some, None, Result, Ok, Err, if◌then◌else◌, nat_eq, nat_lt, length, slice_get}
use Rattle.std.specs.List.{list_all}
use Rattle.std.specs.Ordering.{is_lt}
use lib.Pointwise.{pointwise}
use Rattle.cga_word.specs.declared.mode.Mode.{Mode}
use Rattle.cga_order.specs.Rank.{Rank, rank_cmp}
use Rattle.cga_order.specs.declared.placed.Placed.{Placed}
use Rattle.cga_order.specs.declared.placed.Kind.{Kind}
use Rattle.cga_order.specs.declared.placed.Kind.TheVariants.{Waiting, Done, Faulted}
use Rattle.cga_order.specs.World.{Has, Among, IsNew, shapes_where, is_waiting}

-- what a derivation is told of its shapes N: their lots, paths and priorities, the answers A that
-- they get, and the faults F or the children, among them solids P, that they give
pub record Derivation (N A F P : Type 0) : Type 0 where
  pub mode : Mode
  -- the bytes of the lot's name
  pub lot : N → List ℕ
  pub path : N → List ℕ
  -- of the shape's symbol
  pub priority : N → ℕ
  pub roots : List N
  -- whether the first, when it asks, compares the second
  pub sees : N → N → Bool
  -- the answers of a shape, given the shapes of all members and of those that wait
  pub answers : N → List N → List N → A
  -- the children of a shape with these answers, in order
  pub expand : N → A → Result (List (Placed N F P)) F

-- the first element that passes a test
abbrev pub first_of : {X : Type 0} → (X → Bool) → List X → Option X
first_of test [] = None
first_of test (x ∷ xs) = if test x then Some x else first_of test xs

module _ {N A F P : Type 0} (derivation : Derivation N A F P) where
  -- the lot and the path, which no two members share
  abbrev pub place_of : N → List ℕ × List ℕ
  place_of n = (derivation.lot n, derivation.path n)

  abbrev pub same_place : N → N → Bool
  same_place n m =
      pointwise nat_eq (derivation.lot n) (derivation.lot m)
      && pointwise nat_eq (derivation.path n) (derivation.path m)

  abbrev pub rank_of : N → Rank
  rank_of n = record {
    priority = derivation.priority n;
    lot = derivation.lot n;
    path = derivation.path n;
  }

  -- the first configuration: the roots in their order, all waiting
  abbrev pub start : List (Placed N F P)
  start = map (λ n. record { shape = n; kind = Waiting }) derivation.roots

  -- it waits, and no member that waits has a smaller rank
  abbrev pub is_next : List (Placed N F P) → Placed N F P → Bool
  is_next list s =
      is_waiting s.kind
      && list_all (λ m. not (is_waiting m.kind && is_lt (rank_cmp derivation.mode (rank_of m.shape) (rank_of s.shape)))) list

  -- the member that a step takes; none where nothing waits
  abbrev pub next_of : List (Placed N F P) → Option (Placed N F P)
  next_of list = first_of (is_next list) list

  -- the member at the place of s gets this kind
  abbrev pub become : N → Kind F P → Placed N F P → Placed N F P
  become s kind m = if same_place m.shape s then record { shape = m.shape; kind = kind } else m

  -- the configuration after s was expanded to children, which are appended, or to a fault
  abbrev pub told : List (Placed N F P) → N → Result (List (Placed N F P)) F → List (Placed N F P)
  told list s (Ok children) = map (become s Done) list ++ children
  told list s (Err fault) = map (become s (Faulted fault)) list

  -- the answers of s over all members, and over those that wait
  abbrev pub asked : List (Placed N F P) → N → A
  asked list s =
      derivation.answers s
      (shapes_where (λ n kind. true) list) (shapes_where (λ n kind. is_waiting kind) list)

  -- what s is expanded to in this configuration
  abbrev pub outcome : List (Placed N F P) → N → Result (List (Placed N F P)) F
  outcome list s = derivation.expand s (asked list s)

  -- a step that takes this member, if there is one
  abbrev pub step_by : List (Placed N F P) → Option (Placed N F P) → List (Placed N F P)
  step_by list None = list
  step_by list (Some s) = told list s.shape (outcome list s.shape)

  -- one step; where nothing waits the list stays
  unfoldable pub step : List (Placed N F P) → List (Placed N F P)
  step list = step_by list (next_of list)

  -- the configuration that is reached by so many steps
  unfoldable pub reached : ℕ → List (Placed N F P)
  reached zero = start
  reached (suc n) = step (reached n)

  -- nothing waits
  abbrev pub NothingWaits : List (Placed N F P) → Type 0
  NothingWaits list = (n : N) → Has list n Waiting → ⊥

  -- the configuration in which nothing waits
  abbrev pub IsDerived : List (Placed N F P) → Type 0
  IsDerived list = (n : ℕ) × (list ≡ reached n) × NothingWaits list

  -- that configuration; none where one with more members than the budget is reached
  unfoldable pub derive : ℕ → Option (List (Placed N F P))
  derive budget = if nat_lt budget (length (reached budget)) then None else Some (reached budget)

  abbrev pub taken_next : Option (Placed N F P) → List N → List N
  taken_next None taken = taken
  taken_next (Some s) taken = s.shape ∷ taken

  -- the shapes that so many steps took, the last first
  unfoldable pub expanded : ℕ → List N
  expanded zero = []
  expanded (suc n) = taken_next (next_of (reached n)) (expanded n)

  -- members at two indices of the list have two places
  abbrev pub AllApart : List (Placed N F P) → Type 0
  AllApart list =
      (i j : ℕ) (m n : Placed N F P) → slice_get list i ≡ Some m → slice_get list j ≡ Some n
      → place_of m.shape ≡ place_of n.shape → i ≡ j

  -- of what n sees, both lists have the same
  abbrev pub SameSeen : N → List N → List N → Type 0
  SameSeen n xs ys =
      (m : N) → derivation.sees n m ≡ true → (Among m xs → Among m ys) × (Among m ys → Among m xs)

  -- what the laws need of it
  pub record IsDerivation : Type 0 where
    pub root : (n : N) → Among n derivation.roots → derivation.path n ≡ []
    -- roots at two indices of the list have two places
    pub roots_apart : (i j : ℕ) (n m : N) → slice_get derivation.roots i ≡ Some n
        → slice_get derivation.roots j ≡ Some m → place_of n ≡ place_of m → i ≡ j
    -- child i of a shape stands at i below it, and is new
    pub child : (s : N) (a : A) (children : List (Placed N F P)) → derivation.expand s a ≡ Ok children
        → (i : ℕ) (c : Placed N F P) → slice_get children i ≡ Some c
        → (derivation.lot c.shape ≡ derivation.lot s)
        × (derivation.path c.shape ≡ derivation.path s ++ i ∷ []) × IsNew c.kind
    -- nothing that stands where a shape stands is seen by it
    pub unseen : (n m : N) → derivation.sees n m ≡ true → place_of m ≢ place_of n
    -- answers depend only on which of the shapes that are seen exist, and wait
    pub local : (n : N) (existing waiting existing' waiting' : List N)
        → SameSeen n existing existing' → SameSeen n waiting waiting'
        → derivation.answers n existing waiting ≡ derivation.answers n existing' waiting'
