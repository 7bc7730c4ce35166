-- The bill of a list of instances.
use Rattle.std.specs.Prelude.{◌≡◌, ℕ, ◌+◌, List, [], ◌∷◌, Bool, true, false, bytes_eq, filter, length, sum_by, count_by, Option, Some, None, Result, Ok, Err}
use Rattle.std.specs.List.{fold}
use Rattle.std.specs.List.Sorted.{IsStrictlySortedBy}
use Rattle.std.specs.Map.{keys_of, lookup}
use Rattle.std.specs.BTreeMap.{insert_entry, is_at}
use Rattle.std.specs.Cmp.Lexicographic.{slice_cmp}
use Rattle.std.specs.Ordering.{nat_cmp}
use Rattle.std.specs.declared.cmp.Ordering.{Ordering}
use Rattle.cga_fraction.specs.declared.overflow.Overflow.{Overflow}
use Rattle.cga_shape.specs.declared.changes.Changes.{Changes}
use Rattle.cga_shape.specs.declared.drawn.Drawn.{Drawn}
use Rattle.cga_bill.specs.Measures.{measure_of}
use Rattle.cga_bill.specs.declared.measure.Measure.{Measure}
use Rattle.cga_bill.specs.declared.sums.Sums.{Sums}

abbrev pub front_in : Result Measure Overflow → ℕ
front_in (Ok m) = m.front
front_in (Err e) = 0

abbrev pub volume_in : Result Measure Overflow → ℕ
volume_in (Ok m) = m.volume
volume_in (Err e) = 0

abbrev pub is_unmeasured_in : Result Measure Overflow → Bool
is_unmeasured_in (Ok m) = false
is_unmeasured_in (Err e) = true

-- what an instance adds to the sums: nothing where it isn't measured
abbrev pub front_of : Drawn → ℕ
front_of d = front_in (measure_of d.scope)

abbrev pub volume_of : Drawn → ℕ
volume_of d = volume_in (measure_of d.scope)

abbrev pub is_unmeasured : Drawn → Bool
is_unmeasured d = is_unmeasured_in (measure_of d.scope)

-- how many there are, the sums of the measured ones, and how many aren't measured
abbrev pub sums_of : List Drawn → Sums
sums_of list = record {
  number = length list;
  front = sum_by front_of list;
  volume = sum_by volume_of list;
  unmeasured = count_by is_unmeasured list;
}

-- those of a symbol
abbrev pub of_symbol : List ℕ → List Drawn → List Drawn
of_symbol symbol list = filter (λ d. bytes_eq symbol d.symbol) list

-- the sums of some instances; none where there is no instance
abbrev pub sums_or_none : List Drawn → Option Sums
sums_or_none [] = None
sums_or_none (d ∷ ds) = Some (sums_of (d ∷ ds))

abbrev pub by_bytes : List ℕ → List ℕ → Ordering
by_bytes = slice_cmp nat_cmp

-- for each symbol that an instance of the list names, by bytes, the sums of its instances
unfoldable pub bill_of : List Drawn → List (List ℕ × Sums)
bill_of list = fold (λ lines (d : Drawn). insert_entry by_bytes lines d.symbol (sums_of (of_symbol d.symbol list))) [] list

-- the lines are a bill of the list, whatever way they were found: they are in the order of the bytes of their symbols, and
-- each symbol has the sums of its instances, if there are any
pub record IsBill (lines : List (List ℕ × Sums)) (list : List Drawn) : Type 0 where
  pub ordered : IsStrictlySortedBy by_bytes (keys_of lines)
  pub sums : (symbol : List ℕ) → lookup (is_at (by_bytes symbol)) lines ≡ sums_or_none (of_symbol symbol list)

-- the instances of the one list together with what came are, each as often, those of the other together with what went
abbrev pub Balances : List Drawn → List Drawn → Changes → Type 0
Balances old new changes =
    (test : Drawn → Bool)
    → count_by test old + count_by test changes.come ≡ count_by test new + count_by test changes.gone
