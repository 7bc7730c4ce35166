-- A slab with a mark: its slots, the room in it, and what it keeps beside them.
use Rattle.std.specs.Prelude.{◌≡◌, ◌⊎◌, ℕ, ◌+◌, ◌<◌, ◌≤◌, List, length, Option, Some, None, is_some, option_map, Bool, true, false, slice_get, slice_index_or, ⊤}
use Rattle.cga_marked.specs.Count.{tally}
use Rattle.cga_marked.specs.Marked.{IsCalm}

-- so many entries fit with no allocation, and so many can be listed
pub record SlabView (E : Type 0) : Type 0 where
  pub slots : List (Option E)
  pub capacity : ℕ
  pub listable : ℕ

module _ {E : Type 0} where
  abbrev pub slot : List (Option E) → ℕ → Option E
  slot slots id = slice_index_or slots id None

  abbrev pub at : SlabView E → ℕ → Option E
  at v id = slot v.slots id

  -- so many more entries fit with no allocation
  pub record HasRoom (v : SlabView E) (more : ℕ) : Type 0 where
    pub entries : tally is_some v.slots + more ≤ v.capacity
    pub listed : tally is_some v.slots + more ≤ v.listable

  abbrev pub KeepsRoom : SlabView E → SlabView E → Type 0
  KeepsRoom old new = (more : ℕ) → HasRoom old more → HasRoom new more

  -- there is an entry that passes
  abbrev pub passes : (E → Bool) → Option E → Bool
  passes p None = false
  passes p (Some e) = p e

  -- both slots are empty, or have entries that stand so
  abbrev pub Relates : (E → E → Type 0) → Option E → Option E → Type 0
  Relates R None None = ⊤
  Relates R None (Some y) = ⊥
  Relates R (Some x) None = ⊥
  Relates R (Some x) (Some y) = R x y

  abbrev pub touch_when : (E → E) → Bool → Option E → Option E
  touch_when touching false s = s
  touch_when touching true s = option_map touching s

  -- the entry is touched
  abbrev pub OnlyTouched : (E → Bool) → Option E → Type 0
  OnlyTouched touched s = (e : E) → s ≡ Some e → touched e ≡ true

  -- each entry that isn't on the list is calm
  abbrev pub Listed : (E → Bool) → (E → Type 0) → List (Option E) → List ℕ → Type 0
  Listed touched Plain slots list = (id : ℕ) (e : E) → slot slots id ≡ Some e → ((j : ℕ) × (slice_get list j ≡ Some id)) ⊎ IsCalm touched Plain e

  -- each entry that may keep something for the mark, or is set aside, is touched and on the list
  pub record IsStore (touched aside : E → Bool) (Plain : E → Type 0) (slots : List (Option E)) (list : List ℕ) (cap gone : ℕ) : Type 0 where
    pub listed : (id : ℕ) (e : E) → slot slots id ≡ Some e → touched e ≡ true → (j : ℕ) × (slice_get list j ≡ Some id)
    pub plain : (id : ℕ) (e : E) → slot slots id ≡ Some e → touched e ≡ false → Plain e
    pub counted : length list ≡ tally (passes touched) slots
    pub asides : gone ≡ tally (passes aside) slots
    pub room : tally is_some slots ≤ cap

  -- each slot is as it was or as g makes it, and those of the list's first n are as g makes them
  pub record IsSwept (g : Option E → Option E) (old now : List (Option E)) (list : List ℕ) (n : ℕ) : Type 0 where
    pub each : (c : ℕ) → (slot now c ≡ g (slot old c)) ⊎ (slot now c ≡ slot old c)
    pub done : (j k : ℕ) → j < n → slice_get list j ≡ Some k → slot now k ≡ g (slot old k)
