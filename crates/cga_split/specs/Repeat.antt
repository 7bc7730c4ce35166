-- The cuts of Repeat.
use Rattle.std.specs.Prelude.{ℕ, zero, suc, ◌+◌, List, [], ◌∷◌, not, Result, Ok, nat_lt, pos, unsigned_abs}
use Rattle.cga_fraction.specs.Rat.{Rat, of_int, zero_rat}
use Rattle.cga_fraction.specs.Order.{rat_lt}
use Rattle.cga_fraction.specs.Arithmetic.{times, divided}
use Rattle.cga_fraction.specs.Rounding.{ceil_of}
use Rattle.cga_fraction.specs.Results.{and_then, err_if}
use Rattle.cga_split.specs.Faults.{within}
use Rattle.cga_split.specs.declared.split_fault.SplitFault.{SplitFault}
use Rattle.cga_split.specs.declared.split_fault.SplitFault.TheVariants.{FlatScope, PartNotPositive, RepeatCount}

-- the most parts of one Repeat
abbrev pub most_parts : ℕ
most_parts = 10000

abbrev pub whole : ℕ → Rat
whole n = of_int (pos n)

-- the multiples i, i + 1, .. of a length, so many
abbrev pub multiples : Rat → ℕ → ℕ → List Rat
multiples part i zero = []
multiples part i (suc n) = times part (whole i) ∷ multiples part (i + 1) n

-- the multiples 0 to n of the nth part of the size
unfoldable pub repeat_cuts : Rat → ℕ → List Rat
repeat_cuts size n = multiples (divided size (whole n)) 0 (suc n)

-- the least whole number that is at least a quotient above 0
abbrev pub count_of : Rat → ℕ
count_of quotient = unsigned_abs (ceil_of quotient)

-- for each part in order, from number i on: its place, and the part
abbrev pub repeats_from : {P : Type 0} → (Rat → Rat → Result P SplitFault) → Rat → ℕ → ℕ → Result (List P) SplitFault
repeats_from part step i zero = Ok []
repeats_from part step i (suc n) =
    and_then (within (times step (whole i))) (λ at. and_then (part at step) (λ p. and_then (repeats_from part step (i + 1) n) (λ ps. Ok (p ∷ ps))))

-- the parts of an axis of this size, so many of one size, or the first fault
abbrev pub counted : {P : Type 0} → (Rat → Rat → Result P SplitFault) → Rat → ℕ → Result (List P) SplitFault
counted part size n =
    err_if (nat_lt most_parts n) RepeatCount (and_then (within (divided size (whole n))) (λ step. repeats_from part step 0 n))

-- the parts of an axis of this size, about so long, or the first fault
unfoldable pub repeated : {P : Type 0} → (Rat → Rat → Result P SplitFault) → Rat → Rat → Result (List P) SplitFault
repeated part size length =
    err_if (not (rat_lt zero_rat size)) FlatScope
    (err_if (not (rat_lt zero_rat length)) PartNotPositive
    (and_then (within (divided size length)) (λ quotient. counted part size (count_of quotient))))
