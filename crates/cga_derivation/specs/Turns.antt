-- A derivation by turns: an agenda, which is a map from the stamps of the waiting members to their
-- indices in the list, and what both keep from turn to turn. The keys K are of any type.
use Rattle.std.specs.Prelude.{◌≡◌, ℕ, List, ◌∷◌, Bool, true, false, Some, slice_get, count_by}
use Rattle.std.specs.declared.cmp.Ordering.{Ordering}
use Rattle.std.specs.List.{All}
use Rattle.std.specs.Map.{keys_of}
use Rattle.std.specs.BTreeMap.Range.{IsLtBy}
use Rattle.cga_word.specs.declared.mode.Mode.{Mode}
use Rattle.cga_order.specs.Chain.{Chain}
use Rattle.cga_order.specs.declared.placed.Placed.{Placed}
use Rattle.cga_order.specs.declared.placed.Kind.{Kind}
use Rattle.cga_order.specs.declared.placed.Kind.TheVariants.{Waiting, Done, Faulted, Instance}
use Rattle.cga_order.specs.World.{Among}
use Rattle.cga_derivation.specs.Derivation.{Derivation, reached}
use Rattle.cga_derivation.specs.Sites.{Site, chain_of, sites}

-- it had its turn
abbrev pub is_expanded : {F P : Type 0} → Kind F P → Bool
is_expanded Waiting = false
is_expanded Done = true
is_expanded (Faulted f) = true
is_expanded (Instance p) = false

-- the number of members that had their turn
abbrev pub expanded_in : {N F P : Type 0} → List (Placed N F P) → ℕ
expanded_in list = count_by (λ m. is_expanded m.kind) list

module _ {N A F P : Type 0} (derivation : Derivation N A F P) {K : Type 0} (mode_of : K → Mode) (key_chain : K → Chain) where
  -- the keys are the stamps of the waiting members, each with its index in the list
  pub record HasWaiting (list : List (Placed (Site N) F P)) (entries : List (K × ℕ)) : Type 0 where
    pub entry : (k : K) (i : ℕ) → Among (k, i) entries
        → (mode_of k ≡ derivation.mode)
        × ((m : Placed (Site N) F P) × (slice_get list i ≡ Some m) × (m.kind ≡ Waiting)
        × (key_chain k ≡ chain_of derivation m.shape))
    pub waits : (i : ℕ) (m : Placed (Site N) F P) → slice_get list i ≡ Some m → m.kind ≡ Waiting
        → (k : K) × Among (k, i) entries

  -- after n turns
  pub record IsAt (n : ℕ) (list : List (Placed N F P)) (entries : List (K × ℕ)) : Type 0 where
    pub list_is : list ≡ reached derivation n
    pub keys : HasWaiting (sites derivation n) entries
    pub count : expanded_in list ≡ n

  -- in the turn that comes after n turns, when the least key was taken off the agenda
  pub record IsInTurn (cmp : K → K → Ordering) (n : ℕ) (k : K) (at : ℕ) (list : List (Placed N F P)) (entries : List (K × ℕ)) : Type 0 where
    pub list_is : list ≡ reached derivation n
    pub keys : HasWaiting (sites derivation n) ((k, at) ∷ entries)
    pub above : All (IsLtBy cmp k) (keys_of entries)
    pub count : expanded_in list ≡ n
