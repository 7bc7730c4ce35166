-- What is proved of the order of derivation, in both modes.
use Rattle.std.specs.Prelude.{[], length, ◌≤◌, ◌≡◌, ◌≢◌, ℕ, List, Bool, true, Option, None}
use Rattle.std.specs.declared.cmp.Ordering.TheVariants.{Less, Equal}
use Rattle.std.specs.Cmp.{IsTotalOrder}
use Rattle.cga_word.specs.declared.mode.Mode.{Mode}
use Rattle.cga_order.specs.Rank.{Rank, rank_cmp}
use Rattle.cga_order.specs.Chain.{Chain, IsWhole, IsChild, rank}
use Rattle.cga_order.specs.Stamp.{stamp, birth, stamps_cmp, stamp_cmp}
use Rattle.cga_order.specs.World.{World, IsWorld, Placed, Kind, Waiting, Has, IsEarlier, place_of, stamp_of}
use Rattle.cga_order.specs.Run.{outcome, IsStep, Reached, Rises, StandsByBirth}
use Rattle.cga_order.specs.Consistent.{exists_at, outcome_at, IsBefore, IsConsistent, AllBefore, NothingWaits, SameMembers, HasMembers, HasMade}
use Rattle.cga_order.specs.Agenda.{Node, members_of, Keeps, IsTurn, Worked, AllRight, IsTree}

-- ranks and stamps are in total orders, in which equal ones are those of one lot and path
pub record AreOrders : Type 0 where
  pub ranks : (mode : Mode) → IsTotalOrder (rank_cmp mode)
  pub one_rank : (mode : Mode) (a b : Chain) → rank_cmp mode (rank a) (rank b) ≡ Equal
      → (a.lot ≡ b.lot) × (a.path ≡ b.path)
  pub stamps : (mode : Mode) → IsTotalOrder (stamp_cmp mode)
  pub one_stamp : (mode : Mode) (a b : Chain) → stamp_cmp mode a b ≡ Equal
      → (a.lot ≡ b.lot) × (a.path ≡ b.path)

-- a child is made at its parent's stamp and has a greater one, and a root is there at every stamp
pub record ChildrenComeLater : Type 0 where
  pub made : (mode : Mode) (parent : Chain) (i : ℕ) (child : Chain) → IsWhole parent
      → IsChild parent i child → birth mode child ≡ stamp mode parent
  pub later : (mode : Mode) (parent : Chain) (i : ℕ) (child : Chain) → IsWhole parent
      → IsChild parent i child → stamp_cmp mode parent child ≡ Less
  pub roots_there : (mode : Mode) (root other : Chain) → root.path ≡ []
      → stamps_cmp mode (birth mode root) (stamp mode other) ≡ Less

-- what a shape saw when it was taken is what exists, and waits, at its stamp: it was made before
pub record SeesWhatWasMade {N A F P : Type 0} (world : World N A F P) (before after : List (Placed N F P)) (s : N) : Type 0 where
  pub made : (n : N) (k : Kind F P) → Has before n k → exists_at world s n k ≡ true
  pub only : (n : N) (k : Kind F P) → Has after n k → exists_at world s n k ≡ true
      → (j : Kind F P) × Has before n j
  pub outcome : outcome world before s ≡ outcome_at world after s

module _ (N A F P : Type 0) where
  abbrev Members : Type 0
  Members = List (Placed N F P)

  -- at each step the waiting shape of least rank is that of least stamp
  abbrev pub LeastRankIsLeastStamp : Type 0
  LeastRankIsLeastStamp =
      (world : World N A F P) → IsWorld world
      → (taken : List N) (before after : Members) (s : N) → Reached world taken before
      → IsStep world before after s
      → (w : N) → Has before w Waiting → place_of world w ≢ place_of world s
      → IsEarlier world (stamp_of world s) (stamp_of world w)

  -- a derivation takes its shapes by rising stamps
  abbrev pub RunsRise : Type 0
  RunsRise =
      (world : World N A F P) → IsWorld world
      → (taken : List N) (list : Members) → Reached world taken list → Rises world taken

  -- in its list the members after the roots stand by their parents' stamps, and then by their indices
  abbrev pub MembersStandByBirth : Type 0
  MembersStandByBirth =
      (world : World N A F P) → IsWorld world
      → (taken : List N) (list : Members) → Reached world taken list → StandsByBirth world list

  -- it has at least as many members as it took steps
  abbrev pub StepsLeaveMembers : Type 0
  StepsLeaveMembers =
      (world : World N A F P) → IsWorld world
      → (taken : List N) (list : Members) → Reached world taken list → length taken ≤ length list

  -- each step sees what was made before its stamp
  abbrev pub EachSeesWhatWasMade : Type 0
  EachSeesWhatWasMade =
      (world : World N A F P) → IsWorld world
      → (taken : List N) (before after : Members) (s : N) → Reached world taken before
      → IsStep world before after s
      → SeesWhatWasMade world before after s

  -- what a derivation ends with is a consistent list
  abbrev pub DerivedIsConsistent : Type 0
  DerivedIsConsistent =
      (world : World N A F P) → IsWorld world
      → (taken : List N) (reached : Members) → Reached world taken reached
      → NothingWaits world None reached
      → IsConsistent world None reached

  -- a list that is consistent has the members of the derivation, whatever order it stands in
  abbrev pub ConsistentIsDerived : Type 0
  ConsistentIsDerived =
      (world : World N A F P) → IsWorld world
      → (list : Members) → IsConsistent world None list
      → (taken : List N) (reached : Members) → Reached world taken reached
      → NothingWaits world None reached
      → SameMembers list reached

  -- a list that is consistent as far as a limit has the members of the derivation that far
  abbrev pub ConsistentSoFar : Type 0
  ConsistentSoFar =
      (world : World N A F P) → IsWorld world
      → (limit : Option (List Rank)) (list : Members) → IsConsistent world limit list
      → (taken : List N) (reached : Members) → Reached world taken reached
      → AllBefore world limit taken
      → HasMembers list reached
      × (NothingWaits world limit reached → HasMade world limit reached list)

  -- a turn of an agenda leaves each node right, or on the agenda
  abbrev pub TurnsKeepRight : Type 0
  TurnsKeepRight =
      (world : World N A F P) → IsWorld world
      → (before after : List (Node N A F P)) (s : N) (queued requeued : N → Bool)
      → IsTurn world before after s queued requeued
      → AllRight world before queued → AllRight world after requeued

  -- an agenda that is worked by its least stamp takes each shape once, by rising stamps, and leaves
  -- each node right, or on the agenda
  abbrev pub TurnsRise : Type 0
  TurnsRise =
      (world : World N A F P) → IsWorld world
      → (start : List (Node N A F P)) (queued : N → Bool) (turned : List N)
      (nodes : List (Node N A F P)) (now : N → Bool)
      → Worked world start queued turned nodes now
      → Rises world turned × (AllRight world start queued → AllRight world nodes now)

  -- where no node before a limit is on the agenda, the list is consistent as far as the limit
  abbrev pub RightIsConsistent : Type 0
  RightIsConsistent =
      (world : World N A F P) → IsWorld world
      → (nodes : List (Node N A F P)) (queued : N → Bool) (limit : Option (List Rank))
      → IsTree world nodes → AllRight world nodes queued
      → ((n : N) (k : Kind F P) (a : A) → Keeps nodes n k a → queued n ≡ true
      → IsBefore world limit (stamp_of world n) → ⊥)
      → IsConsistent world limit (members_of nodes)
