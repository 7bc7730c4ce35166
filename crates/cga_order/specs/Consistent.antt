-- Consistent lists, which speak of no order of steps: each member has the outcome that its stamp
-- allows.
use Rattle.std.specs.Prelude.{◌≡◌, List, [], ◌∷◌, Bool, true, false, ◌&&◌, not, ◌⊎◌, Option, Some, None, Result, Ok, Err}
use Rattle.std.specs.Ordering.{is_lt}
use Rattle.cga_order.specs.Rank.{Rank}
use Rattle.cga_order.specs.Stamp.{stamps_cmp}
use Rattle.cga_order.specs.World.{World, Placed, Kind, Waiting, Done, Faulted, Has, Among, shapes_where, is_waiting, is_instance, IsEarlier, stamp_of, birth_of, place_of}

module _ {N F P : Type 0} where
  -- a shape that was made of this kind is there: an instance as itself, and any other in some kind
  abbrev pub Stands : List (Placed N F P) → N → Kind F P → Type 0
  Stands list n kind =
      (now : Kind F P) × Has list n now
      × (is_instance now ≡ is_instance kind) × (is_instance kind ≡ true → now ≡ kind)

  -- a member's kind is that of its outcome, and its children are there
  abbrev pub HasOutcome : List (Placed N F P) → Kind F P → Result (List (Placed N F P)) F → Type 0
  HasOutcome list kind (Ok children) =
      (kind ≡ Done) × ((c : N) (k : Kind F P) → Has children c k → Stands list c k)
  HasOutcome list kind (Err fault) = kind ≡ Faulted fault

  -- both lists have the same members
  abbrev pub SameMembers : List (Placed N F P) → List (Placed N F P) → Type 0
  SameMembers list other =
      (n : N) (k : Kind F P) → (Has list n k → Has other n k) × (Has other n k → Has list n k)

  -- a list has the members of a configuration, with their kinds unless they wait
  abbrev pub HasMembers : List (Placed N F P) → List (Placed N F P) → Type 0
  HasMembers list reached =
      (n : N) (k : Kind F P) → Has reached n k
      → (j : Kind F P) × Has list n j × (is_waiting k ≡ false → j ≡ k)

module _ {N A F P : Type 0} (world : World N A F P) where
  abbrev pub Members : Type 0
  Members = List (Placed N F P)

  -- n exists at the stamp of q: it is a root, or its parent's stamp is smaller than that of q
  abbrev pub exists_at : N → N → Kind F P → Bool
  exists_at q n kind = is_lt (stamps_cmp world.mode (birth_of world n) (stamp_of world q))

  -- it waits there: it exists, is no instance, and its own stamp is greater
  abbrev pub waits_at : N → N → Kind F P → Bool
  waits_at q n kind =
      exists_at q n kind && not (is_instance kind)
      && is_lt (stamps_cmp world.mode (stamp_of world q) (stamp_of world n))

  -- what n gives where it sees the members that exist, or wait, at its stamp
  abbrev pub outcome_at : Members → N → Result Members F
  outcome_at list n =
      world.expand n
      (world.answers n (shapes_where (exists_at n) list) (shapes_where (waits_at n) list))

  -- before a limit of stamps, if there is one
  abbrev pub IsBefore : Option (List Rank) → List Rank → Type 0
  IsBefore None s = Unit {0}
  IsBefore (Some limit) s = IsEarlier world s limit

  -- a member is a child that the outcome of a member has made
  abbrev pub IsMade : Members → N → Type 0
  IsMade list n =
      (s : N) × (children : Members) × Has list s Done × (outcome_at list s ≡ Ok children)
      × ((k : Kind F P) × Has children n k)

  -- consistent as far as the limit: with none, the whole list is
  pub record IsConsistent (limit : Option (List Rank)) (list : Members) : Type 0 where
    -- members have distinct places
    pub distinct : (n m : N) (k j : Kind F P) → Has list n k → Has list m j
        → place_of world n ≡ place_of world m → (n ≡ m) × (k ≡ j)
    pub roots : (n : N) → Among n world.roots → Stands list n Waiting
    -- what is no instance has the outcome over what it sees at its stamp
    pub each : (n : N) (k : Kind F P) → Has list n k → is_instance k ≡ false
        → IsBefore limit (stamp_of world n) → HasOutcome list k (outcome_at list n)
    -- and nothing else is there
    pub only : (n : N) (k : Kind F P) → Has list n k → IsBefore limit (birth_of world n)
        → Among n world.roots ⊎ IsMade list n

  -- each of these shapes has a stamp before the limit
  abbrev pub AllBefore : Option (List Rank) → List N → Type 0
  AllBefore limit [] = Unit {0}
  AllBefore limit (s ∷ taken) = IsBefore limit (stamp_of world s) × AllBefore limit taken

  -- nothing waits whose stamp is before the limit: with none, nothing waits at all
  abbrev pub NothingWaits : Option (List Rank) → Members → Type 0
  NothingWaits limit list =
      (w : N) → Has list w Waiting → IsBefore limit (stamp_of world w) → ⊥

  -- a configuration has the members of a list that were made before the limit
  abbrev pub HasMade : Option (List Rank) → Members → Members → Type 0
  HasMade limit reached list =
      (n : N) (k : Kind F P) → Has list n k → IsBefore limit (birth_of world n)
      → (j : Kind F P) × Has reached n j
