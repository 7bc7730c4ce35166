-- In which number an entry counts, and what the numbers of the entries of each sort have to be.
use Rattle.std.specs.Prelude.{◌≡◌, ◌≢◌, ℕ, List, Option, Some, None, Bool, true, false}
use Rattle.cga_marked.specs.Count.{tally}
use Rattle.cga_marked.specs.Slab.{slot}
use Rattle.cga_marked.specs.declared.numbers.Numbers.{Numbers}
use Rattle.cga_marked.specs.declared.sort.Sort.{Sort}
use Rattle.cga_marked.specs.declared.sort.Sort.TheVariants.{Other, First, Second}

abbrev pub is_first : Sort → Bool
is_first First = true
is_first Other = false
is_first Second = false

abbrev pub is_second : Sort → Bool
is_second Second = true
is_second Other = false
is_second First = false

module _ {E : Type 0} where
  -- an empty slot counts in no number
  abbrev pub sort_of : (E → Sort) → Option E → Sort
  sort_of sort None = Other
  sort_of sort (Some e) = sort e

  -- how many entries there are of the sorts that pass
  abbrev pub sorted : (Sort → Bool) → (E → Sort) → List (Option E) → ℕ
  sorted test sort slots = tally (λ s. test (sort_of sort s)) slots

  -- the numbers are those of these slots
  pub record AreOf (sort : E → Sort) (slots : List (Option E)) (numbers : Numbers) : Type 0 where
    pub first : numbers.first ≡ sorted is_first sort slots
    pub second : numbers.second ≡ sorted is_second sort slots

  -- they were, before one slot changed, which was of that sort
  pub record WereOf (sort : E → Sort) (was : Sort) (id : ℕ) (slots : List (Option E)) (numbers : Numbers) : Type 0 where
    pub old : List (Option E)
    pub counted : AreOf sort old numbers
    pub before : was ≡ sort_of sort (slot old id)
    pub others : (c : ℕ) → c ≢ id → slot slots c ≡ slot old c
