-- Splits of scopes.
use Rattle.std.proofs.Common.{◌≡◌, ℕ, List, [], ◌∷◌, length, true, false, pos, Ok, Err}
use Rattle.std.specs.Prelude.{if◌then◌else◌, Bool, not, ◌||◌, Result, IfOk, OnOk}
use Rattle.cga_fraction.specs.Stops.{Makes, settled_of}
use Rattle.cga_fraction.specs.declared.stop.Stop.{Stop}
use Rattle.cga_fraction.specs.declared.stop.Stop.TheVariants.{Fault, NoMemory}
use Rattle.cga_split.specs.declared.split_fault.SplitFault.{SplitFault}
use Rattle.cga_fraction.specs.Rat.{Rat, zero_rat}
use Rattle.cga_fraction.specs.Arithmetic.{divided}
use Rattle.cga_fraction.specs.Order.{rat_lt}
use Rattle.cga_fraction.specs.Rounding.{IsCeil}
use Rattle.cga_word.specs.declared.axis.Axis.{Axis}
use Rattle.cga_frame.specs.Points.{coordinate}
use Rattle.cga_frame.specs.Scope.{Scope, exists, existing, part_of}
use Rattle.cga_fraction.specs.Results.{err_if, or_err}
use Rattle.cga_fraction.specs.declared.overflow.Overflow as Unit
use Rattle.cga_split.specs.declared.split_fault.SplitFault.TheVariants.{FlatScope, SubdivSum, Overflow}
use Rattle.cga_split.specs.Cuts.{IsCut}
use Rattle.cga_split.specs.Subdiv.{AllFractions, subdivided, subdiv_cuts}
use Rattle.cga_split.specs.Repeat.{repeat_cuts}
use Rattle.cga_split.specs.Split.{part_at, subdiv_of, repeat_of}
use Rattle.cga_split.specs.declared.part_size.PartSize.{PartSize}
use Rattle.cga_split.proofs.Subdivs.{subdivided_is}
use Rattle.cga_split.proofs.RepeatParts.{repeated_is}

existing_is : (s p : Scope) (b : Bool)
    → or_err {E = Unit.Overflow} Overflow (if b then Ok s else Err (record {})) ≡ Ok p → p ≡ s
existing_is s p true h = cc
existing_is s p false h = cc

-- a part that is given is the part
part_is : (s : Scope) (axis : Axis) (from length : Rat) (p : Scope) → part_at s axis from length ≡ Ok p
    → p ≡ part_of s axis from length
unfolding existing
part_is s axis from length p h = existing_is (part_of s axis from length) p (exists (part_of s axis from length)) h

-- no sizes are too little for a size above 0, and another has no parts
no_sizes : {A : Type 0} (b c : Bool) (more : Result A SplitFault) (parts : A)
    → err_if (not b) FlatScope (err_if (c || b) SubdivSum more) ≡ Ok parts → ⊥
no_sizes false c more parts h = cc
no_sizes true true more parts h = cc
no_sizes true false more parts h = cc

no_parts : {P : Type 0} (part : Rat → Rat → Result P SplitFault) (size : Rat) (parts : List P)
    → subdivided part size [] ≡ Ok parts → ⊥
unfolding subdivided
no_parts part size parts h = no_sizes (rat_lt zero_rat size) (rat_lt size zero_rat) _ parts h

pub subdiv_is : (s : Scope) (axis : Axis) (sizes : List PartSize) (parts : List Scope) → AllFractions sizes
    → subdiv_of s axis sizes ≡ Ok parts
    → IsCut (part_of s axis) (subdiv_cuts (coordinate s.size axis) sizes) (coordinate s.size axis) parts
subdiv_is s axis [] parts all h = absurd (no_parts (part_at s axis) (coordinate s.size axis) parts h)
subdiv_is s axis (size ∷ sizes) parts all h = subdivided_is (part_at s axis) (part_of s axis) (part_is s axis) (coordinate s.size axis) size sizes parts all h

pub repeat_is : (s : Scope) (axis : Axis) (length : Rat) (parts : List Scope) → repeat_of s axis length ≡ Ok parts
    → (n : ℕ) × IsCeil (divided (coordinate s.size axis) length) (pos n)
    × IsCut (part_of s axis) (repeat_cuts (coordinate s.size axis) n) (coordinate s.size axis) parts
repeat_is s axis length parts h = repeated_is (part_at s axis) (part_of s axis) (part_is s axis) (coordinate s.size axis) length parts h

-- what is answered is cut
pub subdiv_settled : (s : Scope) (axis : Axis) (sizes : List PartSize) (made : Result (List Scope) (Stop SplitFault))
    → OnOk made (AllFractions sizes) → Makes (subdiv_of s axis sizes) made
    → IfOk (settled_of made) (λ given. IfOk given
    (IsCut (part_of s axis) (subdiv_cuts (coordinate s.size axis) sizes) (coordinate s.size axis)))
subdiv_settled s axis sizes (Ok parts) all h = subdiv_is s axis sizes parts all h
subdiv_settled s axis sizes (Err (Fault f)) all h = tt
subdiv_settled s axis sizes (Err NoMemory) all h = tt

pub repeat_settled : (s : Scope) (axis : Axis) (length : Rat) (made : Result (List Scope) (Stop SplitFault))
    → Makes (repeat_of s axis length) made
    → IfOk (settled_of made) (λ given. IfOk given
    (λ parts. (n : ℕ) × IsCeil (divided (coordinate s.size axis) length) (pos n)
    × IsCut (part_of s axis) (repeat_cuts (coordinate s.size axis) n) (coordinate s.size axis) parts))
repeat_settled s axis length (Ok parts) h = repeat_is s axis length parts h
repeat_settled s axis length (Err (Fault f)) h = tt
repeat_settled s axis length (Err NoMemory) h = tt
