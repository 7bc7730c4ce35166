-- The parts that a split gives are those of the cuts.
use Rattle.std.proofs.Common.{◌≡◌, List, [], ◌∷◌, ◌++◌, append_assoc, refl, sym, ap, ◌∙◌, Ok, Err}
use Rattle.std.specs.Prelude.{Result}
use Rattle.cga_fraction.specs.Rat.{Rat}
use Rattle.cga_fraction.specs.Arithmetic.{plus, minus, times, divided}
use Rattle.cga_fraction.specs.Refusals.{checked}
use Rattle.cga_fraction.proofs.Door.{IsLowest, and_then-ok, checked_is, minus-plus_left, or_err-ok}
use Rattle.cga_split.specs.declared.split_fault.SplitFault.TheVariants as fault
use Rattle.cga_fraction.specs.Results.{and_then, onto}
use Rattle.cga_split.specs.Faults.{within}
use Rattle.cga_split.specs.Cuts.{parts_of}
use Rattle.cga_split.specs.declared.split_fault.SplitFault.{SplitFault}
use Rattle.cga_split.specs.declared.part_size.PartSize.{PartSize}
use Rattle.cga_split.specs.declared.part_size.PartSize.TheVariants.{Absolute, Relative}
use Rattle.cga_split.specs.Subdiv.{length_of, cuts_after, checked_length, parts_from, absolute_sum, absolute_total, relative_sum, relative_total}

pub within_is : (a q : Rat) → within a ≡ Ok q → a ≡ q
within_is a q h = checked_is a q (or_err-ok fault.Overflow (checked a) q h)

ok_same : {F : Type 0} (a b : Rat) → ◌≡◌ {A = Result Rat F} (Ok a) (Ok b) → a ≡ b
ok_same a b h = cc

-- each length is in lowest terms
abbrev pub AllLengthsLowest : Rat → Rat → List PartSize → Type 0
AllLengthsLowest rest total [] = Unit {0}
AllLengthsLowest rest total (s ∷ ss) = IsLowest (length_of rest total s) × AllLengthsLowest rest total ss

pub length_is : (rest total : Rat) (s : PartSize) (len : Rat) → checked_length rest total s ≡ Ok len
    → length_of rest total s ≡ len
length_is rest total (Absolute x) len h = ok_same x len h
length_is rest total (Relative r) len h =
    let w = and_then-ok (within (times rest r)) (λ m. within (divided m total)) len h in
    ap (λ m. divided m total) (within_is (times rest r) w.0 w.1) ∙ within_is (divided w.0 total) len w.2

pub joined : {P F : Type 0} (p : P) (qs ps : List P) (q : P) (rs : List P)
    → ◌≡◌ {A = Result (List P) F} (Ok (p ∷ qs)) (Ok ps) → p ≡ q → qs ≡ rs → ps ≡ q ∷ rs
joined p qs ps q rs e f g = cc

-- parts that are given are those of the cuts
pub parts_are : {P : Type 0} (part : Rat → Rat → Result P SplitFault) (place : Rat → Rat → P)
    → ((a len : Rat) (p : P) → part a len ≡ Ok p → p ≡ place a len)
    → (rest total at : Rat) (ss : List PartSize) (ps : List P) → AllLengthsLowest rest total ss
    → parts_from part rest total at ss ≡ Ok ps → ps ≡ parts_of place (at ∷ cuts_after rest total at ss)
parts_are part place exact rest total at [] ps l h = cc
parts_are part place exact rest total at (s ∷ ss) ps l h =
    let a = and_then-ok (checked_length rest total s) _ ps h in
    let b = and_then-ok (part at a.0) _ ps a.2 in
    let c = and_then-ok (within (plus at a.0)) _ ps b.2 in
    let d = and_then-ok (parts_from part rest total c.0 ss) _ ps c.2 in
    let len : length_of rest total s ≡ a.0 = length_is rest total s a.0 a.1 in
    let next : plus at a.0 ≡ c.0 = within_is (plus at a.0) c.0 c.1 in
    let next' : plus at (length_of rest total s) ≡ c.0 = ap (plus at) len ∙ next in
    let rec : d.0 ≡ parts_of place (c.0 ∷ cuts_after rest total c.0 ss) = parts_are part place exact rest total c.0 ss d.0 l.1 d.1 in
    let head : b.0 ≡ place at (minus (plus at (length_of rest total s)) at) = exact at a.0 b.0 b.1 ∙ ap (place at) (sym len ∙ sym (minus-plus_left at (length_of rest total s) l.0)) in
    let tail : d.0 ≡ parts_of place (plus at (length_of rest total s)
    ∷ cuts_after rest total (plus at (length_of rest total s)) ss) = rec ∙ ap (λ z. parts_of place (z ∷ cuts_after rest total z ss)) (sym next') in
    joined b.0 d.0 ps _ _ d.2 head tail

-- sums that stay in range are the sums
pub absolute_is : (a : Rat) (sizes : List PartSize) (t : Rat) → absolute_total a sizes ≡ Ok t → absolute_sum a sizes ≡ t
absolute_is a [] t h = ok_same a t h
absolute_is a (Absolute x ∷ sizes) t h =
    let w = and_then-ok (within (plus a x)) (λ b. absolute_total b sizes) t h in
    ap (λ b. absolute_sum b sizes) (within_is (plus a x) w.0 w.1) ∙ absolute_is w.0 sizes t w.2
absolute_is a (Relative r ∷ sizes) t h = absolute_is a sizes t h

pub relative_is : (a : Rat) (sizes : List PartSize) (t : Rat) → relative_total a sizes ≡ Ok t → relative_sum a sizes ≡ t
relative_is a [] t h = ok_same a t h
relative_is a (Absolute x ∷ sizes) t h = relative_is a sizes t h
relative_is a (Relative r ∷ sizes) t h =
    let w = and_then-ok (within (plus a r)) (λ b. relative_total b sizes) t h in
    ap (λ b. relative_sum b sizes) (within_is (plus a r) w.0 w.1) ∙ relative_is w.0 sizes t w.2

onto_more : {P F : Type 0} (made : List P) (p : P) (r : Result (List P) F)
    → onto made (and_then r (λ ps. Ok (p ∷ ps))) ≡ onto (made ++ p ∷ []) r
onto_more made p (Ok ps) = ap Ok (sym (append_assoc made (p ∷ []) ps))
onto_more made p (Err e) = refl

-- the size s gives the part p of this length, which begins at from, and the next part begins at next
pub record GivesPart {P : Type 0} (part : Rat → Rat → Result P SplitFault) (rest total from : Rat) (s : PartSize) (length next : Rat) (p : P) : Type 0 where
  pub long : ◌≡◌ {A = Result Rat SplitFault} (Ok length) (checked_length rest total s)
  pub made : Ok p ≡ part from length
  pub ends : ◌≡◌ {A = Result Rat SplitFault} (Ok next) (within (plus from length))

-- one part more
pub one_more : {P : Type 0} (part : Rat → Rat → Result P SplitFault) (rest total from length next : Rat)
    (made : List P) (p : P) (s : PartSize) (ss : List PartSize) → GivesPart part rest total from s length next p
    → onto (made ++ p ∷ []) (parts_from part rest total next ss)
    ≡ onto made (parts_from part rest total from (s ∷ ss))
one_more part rest total from length next made p s ss h =
    sym (onto_more made p (parts_from part rest total next ss)) ∙ rw (← h.long) (rw (← h.made) (rw (← h.ends) refl))
