-- The cuts of Subdiv.
use Rattle.std.specs.Prelude.{List, [], ◌∷◌, Bool, true, false, not, ◌||◌, Result, Ok, if◌then◌else◌}
use Rattle.std.specs.List.{list_all, list_any}
use Rattle.cga_fraction.specs.Rat.{Rat, zero_rat, IsFraction}
use Rattle.cga_fraction.specs.Arithmetic.{plus, minus, times, divided}
use Rattle.cga_fraction.specs.Order.{rat_le, rat_lt}
use Rattle.cga_fraction.specs.Results.{and_then, err_if}
use Rattle.cga_split.specs.Faults.{within}
use Rattle.cga_split.specs.declared.split_fault.SplitFault.{SplitFault}
use Rattle.cga_split.specs.declared.split_fault.SplitFault.TheVariants.{FlatScope, PartNotPositive, SubdivSum}
use Rattle.cga_split.specs.declared.part_size.PartSize.{PartSize}
use Rattle.cga_split.specs.declared.part_size.PartSize.TheVariants.{Absolute, Relative}

-- the sum of the absolute sizes, added from the left to a
abbrev pub absolute_sum : Rat → List PartSize → Rat
absolute_sum a [] = a
absolute_sum a (Absolute x ∷ sizes) = absolute_sum (plus a x) sizes
absolute_sum a (Relative r ∷ sizes) = absolute_sum a sizes

-- the sum of the relative factors, likewise
abbrev pub relative_sum : Rat → List PartSize → Rat
relative_sum a [] = a
relative_sum a (Absolute x ∷ sizes) = relative_sum a sizes
relative_sum a (Relative r ∷ sizes) = relative_sum (plus a r) sizes

-- the length of one part, with what the absolute sizes leave and the sum of the factors
abbrev pub length_of : Rat → Rat → PartSize → Rat
length_of rest total (Absolute x) = x
length_of rest total (Relative r) = divided (times rest r) total

-- the cuts after the one at a place
abbrev pub cuts_after : Rat → Rat → Rat → List PartSize → List Rat
cuts_after rest total at [] = []
cuts_after rest total at (size ∷ sizes) = plus at (length_of rest total size) ∷ cuts_after rest total (plus at (length_of rest total size)) sizes

-- 0, and the sums of the lengths so far
abbrev pub subdiv_cuts : Rat → List PartSize → List Rat
subdiv_cuts size sizes = zero_rat ∷ cuts_after (minus size (absolute_sum zero_rat sizes)) (relative_sum zero_rat sizes) zero_rat sizes

-- a size or a factor is above 0
abbrev pub is_positive : PartSize → Bool
is_positive (Absolute x) = rat_lt zero_rat x
is_positive (Relative r) = rat_lt zero_rat r

abbrev pub is_relative : PartSize → Bool
is_relative (Absolute x) = false
is_relative (Relative r) = true

-- the sum of the absolute sizes, each step in range
abbrev pub absolute_total : Rat → List PartSize → Result Rat SplitFault
absolute_total a [] = Ok a
absolute_total a (Absolute x ∷ sizes) = and_then (within (plus a x)) (λ b. absolute_total b sizes)
absolute_total a (Relative r ∷ sizes) = absolute_total a sizes

-- the sum of the relative factors, likewise
abbrev pub relative_total : Rat → List PartSize → Result Rat SplitFault
relative_total a [] = Ok a
relative_total a (Absolute x ∷ sizes) = relative_total a sizes
relative_total a (Relative r ∷ sizes) = and_then (within (plus a r)) (λ b. relative_total b sizes)

-- the absolute sizes add up to more than the size, or to all of it beside a relative size, or to less with none
abbrev pub is_off : Rat → Rat → List PartSize → Bool
is_off size a sizes = if list_any is_relative sizes then rat_le size a else (rat_lt size a || rat_lt a size)

-- a relative size has the rest times its factor, divided by the sum of the factors
abbrev pub checked_length : Rat → Rat → PartSize → Result Rat SplitFault
checked_length rest total (Absolute x) = Ok x
checked_length rest total (Relative r) = and_then (within (times rest r)) (λ m. within (divided m total))

-- for each part in order: its length, the part, and the place of the next
abbrev pub parts_from : {P : Type 0} → (Rat → Rat → Result P SplitFault) → Rat → Rat → Rat → List PartSize
    → Result (List P) SplitFault
parts_from part rest total at [] = Ok []
parts_from part rest total at (size ∷ sizes) =
    and_then (checked_length rest total size) (λ length. and_then (part at length) (λ p. and_then (within (plus at length)) (λ next.
    and_then (parts_from part rest total next sizes) (λ ps. Ok (p ∷ ps)))))

-- the parts of an axis of this size, or the first fault
unfoldable pub subdivided : {P : Type 0} → (Rat → Rat → Result P SplitFault) → Rat → List PartSize
    → Result (List P) SplitFault
subdivided part size sizes =
    err_if (not (rat_lt zero_rat size)) FlatScope
    (err_if (not (list_all is_positive sizes)) PartNotPositive
    (and_then (absolute_total zero_rat sizes) (λ a. and_then (relative_total zero_rat sizes) (λ r.
    err_if (is_off size a sizes) SubdivSum
    (and_then (within (minus size a)) (λ rest. parts_from part rest r zero_rat sizes))))))

-- the number of a size
abbrev pub number_of : PartSize → Rat
number_of (Absolute x) = x
number_of (Relative r) = r

-- each size is in lowest terms and in range
abbrev pub AllFractions : List PartSize → Type 0
AllFractions [] = Unit {0}
AllFractions (size ∷ sizes) = IsFraction (number_of size) × AllFractions sizes
