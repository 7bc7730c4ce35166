-- The parts of Repeat are those of its cuts, which cover the axis.
use Rattle.std.proofs.Common.{◌≡◌, ℕ, zero, suc, ◌+◌, ◌*◌, ◌-◌, ◌<◌, List, [], ◌∷◌, ◌++◌, append_assoc, Err, refl, sym, ap, ◌∙◌, subst, arith, Ok, pos, negsuc, ℤ, unsigned_abs}
use Rattle.std.specs.Prelude.{Result, IsTrue, not, nat_lt}
use Rattle.std.proofs.Math.Nat.{mul-pos}
use Rattle.cga_fraction.specs.Rat.{Rat, den, zero_rat, of_int}
use Rattle.cga_fraction.specs.Order.{rat_le, rat_lt, positive_part, negative_part}
use Rattle.cga_fraction.specs.Arithmetic.{minus, times, divided}
use Rattle.cga_fraction.specs.Rounding.{IsCeil, ceil_of}
use Rattle.cga_fraction.proofs.Door.{IsLowest, IsRatio, and_then-ok, divided_ratio, err_if-ok, is_ceil, itself, le_ratio, like}
use Rattle.cga_fraction.proofs.Door.{lt_fact, lt_of_lt_le, lt_test, minus_lowest, minus_of, same_diff, times_diff}
use Rattle.cga_fraction.proofs.Door.{times_ratio, zero_ratio}
use Rattle.cga_fraction.specs.Results.{and_then, onto}
use Rattle.cga_split.specs.Faults.{within}
use Rattle.cga_split.specs.Cuts.{Cover, IsCut, parts_of}
use Rattle.cga_split.specs.Repeat.{whole, multiples, repeat_cuts, count_of, repeats_from, counted, repeated}
use Rattle.cga_split.specs.declared.split_fault.SplitFault.{SplitFault}
use Rattle.cga_split.proofs.Covers.{Rises, last_of, covers}
use Rattle.cga_split.proofs.Parts.{within_is, joined}
use Rattle.cga_split.proofs.Subdivs.{divided_lowest, positive, not_true}

-- ---- the multiples of a part

pub whole_ratio : (n : ℕ) → IsRatio (whole n) n 1
whole_ratio n = record { positive = omega arith; top = n; is = refl; same = refl }

pub part_ratio : (size : Rat) (nl dl n : ℕ) → IsRatio size nl dl → 0 < n → IsRatio (divided size (whole n)) nl (dl * n)
part_ratio size nl dl n l h = like (divided size (whole n)) _ _ nl (dl * n) (divided_ratio size (whole n) nl dl n 1 l (whole_ratio n) h) (omega arith) (mul-pos l.positive h)

multiple_ratio : (part : Rat) (np dp i : ℕ) → IsRatio part np dp → IsRatio (times part (whole i)) (np * i) dp
multiple_ratio part np dp i r = like (times part (whole i)) _ _ (np * i) dp (times_ratio part (whole i) np dp i 1 r (whole_ratio i)) (omega arith) r.positive

multiples_rise : (part : Rat) (np dp i n : ℕ) → IsRatio part np dp
    → Rises (times part (whole i)) (multiples part (i + 1) n)
multiples_rise part np dp i zero r = tt
multiples_rise part np dp i (suc n) r = (
  le_ratio (times part (whole i)) (times part (whole (i + 1))) (np * i) dp (np * (i + 1)) dp
      (multiple_ratio part np dp i r) (multiple_ratio part np dp (i + 1) r) (omega arith),
  multiples_rise part np dp (i + 1) n r,
)

last_multiple : (part : Rat) (i n : ℕ)
    → last_of (times part (whole i)) (multiples part (i + 1) n) ≡ times part (whole (i + n))
last_multiple part i zero = ap (λ k. times part (whole k)) (omega arith)
last_multiple part i (suc n) = last_multiple part (i + 1) n ∙ ap (λ k. times part (whole k)) (omega arith)

repeat_end : (size : Rat) (nl dl n : ℕ) → IsRatio size nl dl → 0 < n
    → IsRatio (times (divided size (whole n)) (whole n)) nl dl
repeat_end size nl dl n l h =
    like (times (divided size (whole n)) (whole n)) _ _ nl dl (multiple_ratio (divided size (whole n)) nl (dl * n) n (part_ratio size nl dl n l h)) (omega arith) l.positive

-- the difference of two neighbouring multiples
step_naturals : (p m d i : ℕ)
    → ((p * (i + 1) + m * 0) * (d * 1) + (p * 0 + m * i) * (d * 1)) * d + m * (d * 1 * (d * 1)) ≡ p * (d * 1 * (d * 1))
    + ((p * 0 + m * (i + 1)) * (d * 1) + (p * i + m * 0) * (d * 1)) * d
step_naturals p m d i = omega arith

step_is : (step : Rat) (i : ℕ) → IsLowest step → minus (times step (whole (i + 1))) (times step (whole i)) ≡ step
step_is step i low =
    same_diff (minus (times step (whole (i + 1))) (times step (whole i))) step _ _ _ _ _ _ (minus_lowest (times step (whole (i + 1))) (times step (whole i))) low
    (minus_of (times step (whole (i + 1))) (times step (whole i)) _ _ _ _ _ _ (times_diff step (whole (i + 1))) (times_diff step (whole i))) (itself step)
    (step_naturals (positive_part step.num) (negative_part step.num) (den step) i)

-- ---- the parts

repeats_are : {P : Type 0} (part : Rat → Rat → Result P SplitFault) (place : Rat → Rat → P)
    → ((a len : Rat) (p : P) → part a len ≡ Ok p → p ≡ place a len)
    → (step : Rat) → IsLowest step → (i n : ℕ) (ps : List P) → repeats_from part step i n ≡ Ok ps
    → ps ≡ parts_of place (times step (whole i) ∷ multiples step (i + 1) n)
repeats_are part place exact step low i zero ps h = cc
repeats_are part place exact step low i (suc n) ps h =
    let a = and_then-ok (within (times step (whole i))) _ ps h in
    let b = and_then-ok (part a.0 step) _ ps a.2 in
    let c = and_then-ok (repeats_from part step (i + 1) n) _ ps b.2 in
    let at : times step (whole i) ≡ a.0 = within_is (times step (whole i)) a.0 a.1 in
    let head : b.0 ≡ place (times step (whole i)) (minus (times step (whole (i + 1))) (times step (whole i))) =
    exact a.0 step b.0 b.1 ∙ ap (λ (x : Rat). place x step) (sym at) ∙ ap (place (times step (whole i))) (sym (step_is step i low)) in
    joined b.0 c.0 ps _ _ c.2 head (repeats_are part place exact step low (i + 1) n c.0 c.1)

-- ---- the count

above_of : (z : ℤ) → IsTrue (rat_lt zero_rat (of_int z)) → (n : ℕ) × (z ≡ pos (suc n))
above_of (pos zero) h = let f = lt_fact zero_rat (of_int (pos zero)) h in absurd (omega arith)
above_of (pos (suc n)) h = (n, refl)
above_of (negsuc n) h = let f = lt_fact zero_rat (of_int (negsuc n)) h in absurd (omega arith)

-- of a quotient above 0 the count is above 0, and the least whole number that is at least it
pub count_is : (q : Rat) → IsTrue (rat_lt zero_rat q) → (n : ℕ) × (count_of q ≡ suc n) × IsCeil q (pos (suc n))
count_is q some =
    let c = is_ceil q in
    let top = above_of (ceil_of q) (lt_of_lt_le zero_rat q (of_int (ceil_of q)) some c.above) in
    (top.0, ap unsigned_abs top.1, subst (IsCeil q) top.1 c)

-- a ratio of numbers above 0 is above 0
some_top : (t d n e : ℕ) → t * d ≡ n * e → 0 < n → 0 < e → 0 < t
some_top zero d n e h p q = let k = mul-pos p q in absurd (omega arith)
some_top (suc t) d n e h p q = omega arith

lt_parts : (z : ℤ) (t d : ℕ) → z ≡ pos t → 0 < t → 0 * d + negative_part z * 1 < positive_part z * 1 + 0 * d
lt_parts z t d is some = rw is (omega arith)

pub lt_ratio : (q : Rat) (n d : ℕ) → IsRatio q n d → 0 < n → IsTrue (rat_lt zero_rat q)
lt_ratio q n d r some = lt_test zero_rat q (lt_parts q.num r.top (den q) r.is (some_top r.top d n (den q) r.same some (omega arith)))

-- ---- the cover

zero_multiple : (part : Rat) (np dp : ℕ) → IsRatio part np dp
    → IsTrue (rat_le (times part (whole 0)) zero_rat) × IsTrue (rat_le zero_rat (times part (whole 0)))
zero_multiple part np dp r =
    let z = multiple_ratio part np dp 0 r in
    (le_ratio (times part (whole 0)) zero_rat (np * 0) dp 0 1 z zero_ratio (omega arith), le_ratio zero_rat (times part (whole 0)) 0 1 (np * 0) dp zero_ratio z (omega arith))

repeat_covers : (size : Rat) (nl dl n : ℕ) → IsRatio size nl dl → Cover (repeat_cuts size (suc n)) size
unfolding repeat_cuts
repeat_covers size nl dl n l =
    let part = divided size (whole (suc n)) in
    let r = part_ratio size nl dl (suc n) l (omega arith) in
    let zeros = zero_multiple part nl (dl * suc n) r in
    let end : last_of (times part (whole 0)) (multiples part (0 + 1) (suc n)) ≡ times part (whole (suc n)) = last_multiple part 0 (suc n) ∙ ap (λ k. times part (whole k)) (omega arith) in
    let last = repeat_end size nl dl (suc n) l (omega arith) in
    covers (times part (whole 0)) (times part (whole (0 + 1))) (multiples part (0 + 1 + 1) n) size zeros.0 zeros.1 (multiples_rise part nl (dl * suc n) 0 (suc n) r)
    (subst (λ (x : Rat). IsTrue (rat_le x size)) (sym end) (le_ratio (times part (whole (suc n))) size nl dl nl dl last l (omega arith)))
    (subst (λ (x : Rat). IsTrue (rat_le size x)) (sym end) (le_ratio size (times part (whole (suc n))) nl dl nl dl l last (omega arith)))

counted_is : {P : Type 0} (part : Rat → Rat → Result P SplitFault) (place : Rat → Rat → P)
    → ((a len : Rat) (p : P) → part a len ≡ Ok p → p ≡ place a len)
    → (size : Rat) (n : ℕ) (ps : List P) → counted part size n ≡ Ok ps → ps ≡ parts_of place (repeat_cuts size n)
unfolding repeat_cuts
counted_is part place exact size n ps h =
    let few = err_if-ok (nat_lt 10000 n) _ _ ps h in
    let a = and_then-ok (within (divided size (whole n))) _ ps few.1 in
    let step : divided size (whole n) ≡ a.0 = within_is (divided size (whole n)) a.0 a.1 in
    let low : IsLowest a.0 = subst IsLowest step (divided_lowest size (whole n)) in
    repeats_are part place exact a.0 low 0 n ps a.2 ∙ ap (λ (x : Rat). parts_of place (times x (whole 0) ∷ multiples x (0 + 1) n)) (sym step)

-- so many parts, the cuts of which cover the size
pub repeated_is : {P : Type 0} (part : Rat → Rat → Result P SplitFault) (place : Rat → Rat → P)
    → ((a len : Rat) (p : P) → part a len ≡ Ok p → p ≡ place a len)
    → (size length : Rat) (ps : List P) → repeated part size length ≡ Ok ps
    → (n : ℕ) × IsCeil (divided size length) (pos n) × IsCut place (repeat_cuts size n) size ps
unfolding repeated
repeated_is part place exact size length ps h =
    let flat = err_if-ok (not (rat_lt zero_rat size)) _ _ ps h in
    let short = err_if-ok (not (rat_lt zero_rat length)) _ _ ps flat.1 in
    let q = and_then-ok (within (divided size length)) _ ps short.1 in
    let l = positive size (not_true _ flat.0) in
    let s = positive length (not_true _ short.0) in
    let quotient : divided size length ≡ q.0 = within_is (divided size length) q.0 q.1 in
    let ratio = divided_ratio size length l.n l.d s.n s.d l.ratio s.ratio s.some in
    let count = count_is (divided size length) (lt_ratio (divided size length) (l.n * s.d) (l.d * s.n) ratio (mul-pos l.some s.ratio.positive)) in
    let n : count_of q.0 ≡ suc count.0 = ap count_of (sym quotient) ∙ count.1 in
    let given : counted part size (suc count.0) ≡ Ok ps = ap (counted part size) (sym n) ∙ q.2 in
    (suc count.0, count.2, record { parts = counted_is part place exact size (suc count.0) ps given; cover = repeat_covers size l.n l.d count.0 l.ratio })

-- ---- one part more

onto_more : {P F : Type 0} (made : List P) (p : P) (r : Result (List P) F)
    → onto made (and_then r (λ ps. Ok (p ∷ ps))) ≡ onto (made ++ p ∷ []) r
onto_more made p (Ok ps) = ap Ok (sym (append_assoc made (p ∷ []) ps))
onto_more made p (Err e) = refl

module _ {P : Type 0} (part : Rat → Rat → Result P SplitFault) (step : Rat) (i left : ℕ) (made : List P) (target : Result (List P) SplitFault) (some : 0 < left)
    (so_far : onto made (repeats_from part step i left) ≡ target) where
  less : left ≡ suc (left - 1)
  less = omega arith

  here : onto made (repeats_from part step i (suc (left - 1))) ≡ target
  here = ap (λ (n : ℕ). onto made (repeats_from part step i n)) (sym less) ∙ so_far

  pub one_repeat : (from : Rat) (longer : List P) (p : P)
      → ◌≡◌ {A = Result Rat SplitFault} (Ok from) (within (times step (whole i))) → Ok p ≡ part from step
      → longer ≡ made ++ p ∷ []
      → onto longer (repeats_from part step (i + 1) (left - 1)) ≡ target
  one_repeat from longer p a b e = rw e (sym (onto_more made p (repeats_from part step (i + 1) (left - 1))) ∙ back ∙ here)
    where
      back : onto made (and_then (repeats_from part step (i + 1) (left - 1)) (λ ps. Ok (p ∷ ps))) ≡ onto made
          (repeats_from part step i (suc (left - 1)))
      back = rw (← a) (rw (← b) refl)

  pub place_fault : (fault : SplitFault) → ◌≡◌ {A = Result Rat SplitFault} (Err fault) (within (times step (whole i)))
      → target ≡ Err fault
  place_fault fault a = sym here ∙ (rw (← a) refl)

  pub part_fault : (from : Rat) (fault : SplitFault)
      → ◌≡◌ {A = Result Rat SplitFault} (Ok from) (within (times step (whole i))) → Err fault ≡ part from step
      → target ≡ Err fault
  part_fault from fault a b = sym here ∙ (rw (← a) (rw (← b) refl))
