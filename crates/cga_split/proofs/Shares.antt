-- The length of a part by its share.
use Rattle.std.proofs.Common.{◌≡◌, ℕ, suc, ◌+◌, ◌*◌, ◌<◌, true, false, refl, sym, ap, ◌∙◌, subst, arith, Ok, Err, Result, pos, negsuc, ℤ}
use Rattle.std.specs.Prelude.{IsTrue, not}
use Rattle.cga_fraction.specs.Rat.{Rat, den, zero_rat}
use Rattle.cga_fraction.specs.Order.{rat_le, rat_lt, positive_part, negative_part}
use Rattle.cga_fraction.specs.Arithmetic.{minus, times, divided}
use Rattle.cga_fraction.specs.Refusals.{checked, quotient_of, is_zero}
use Rattle.cga_fraction.specs.declared.overflow.DivFault.{DivFault}
use Rattle.cga_fraction.proofs.Door.{IsRatio, divided_ratio, le_ratio, lt_not_le, lt_test, minus_ratio, or_err-err_as, or_err-ok_as, times_ratio, zero_ratio}
use Rattle.cga_fraction.specs.Results.{and_then, or_err}
use Rattle.cga_fraction.specs.declared.overflow.DivFault.TheVariants as div
use Rattle.cga_split.specs.Faults.{within}
use Rattle.cga_split.specs.Subdiv.{checked_length, is_off, is_positive, is_relative, absolute_sum, absolute_total, relative_sum, relative_total}
use Rattle.cga_split.specs.declared.part_size.PartSize.{PartSize}
use Rattle.std.specs.List.{list_all, list_any}
use Rattle.std.specs.Prelude.{List}
use Rattle.cga_split.specs.declared.split_fault.SplitFault.{SplitFault}
use Rattle.cga_split.specs.declared.split_fault.SplitFault.TheVariants.{Overflow}
use Rattle.cga_split.specs.declared.part_size.PartSize.TheVariants.{Relative}
use Rattle.cga_split.proofs.Subdivs.{positive, positive_top, not_true, are_ratios, fits_relative, fits_absolute, relative_some}
use Rattle.cga_split.proofs.Sums.{absolute_ratio}
use Rattle.cga_split.proofs.RepeatParts.{lt_ratio, whole_ratio, part_ratio, count_is}
use Rattle.cga_split.specs.Repeat.{whole, count_of}
use Rattle.std.proofs.Math.Nat.{mul-pos}
use Rattle.cga_split.proofs.Parts.{length_is, within_is, absolute_is, relative_is}

not_zero : (z : ℤ) (n : ℕ) → z ≡ pos (suc n) → is_zero z ≡ false
not_zero z n e = rw e refl

-- by a number above 0 the quotient is the exact one
quotient_is : (m total : Rat) (n : ℕ) → total.num ≡ pos (suc n)
    → quotient_of m total ≡ or_err div.Overflow (checked (divided m total))
unfolding quotient_of
quotient_is m total n e = rw (not_zero total.num n e) refl

module _ (rest r total m : Rat) (product : checked (times rest r) ≡ Ok m) (some : IsTrue (rat_lt zero_rat total)) where
  first : within (times rest r) ≡ Ok m
  first = ap (or_err Overflow) product

  pub share_ok : (len : Rat) → quotient_of m total ≡ Ok len → checked_length rest total (Relative r) ≡ Ok len
  share_ok len h =
      let t = positive_top total some in
      ap (λ (x : Result Rat SplitFault). and_then x (λ k. within (divided k total))) first ∙ or_err-ok_as div.Overflow Overflow (checked (divided m total)) len (sym (quotient_is m total t.0 t.1) ∙ h)

  pub share_err : (e : DivFault) → quotient_of m total ≡ Err e
      → ◌≡◌ {A = Result Rat SplitFault} (checked_length rest total (Relative r)) (Err Overflow)
  share_err e h =
      let t = positive_top total some in
      ap (λ (x : Result Rat SplitFault). and_then x (λ k. within (divided k total))) first ∙ or_err-err_as div.Overflow e Overflow (checked (divided m total)) (sym (quotient_is m total t.0 t.1) ∙ h)

-- a number that isn't below 0 is a ratio
not_below : (z : ℤ) (d : ℕ) → (positive_part z * 1 + 0 * d < 0 * d + negative_part z * 1 → ⊥) → (n : ℕ) × (z ≡ pos n)
not_below (pos n) d h = (n, refl)
not_below (negsuc n) d h = absurd (h (omega arith))

pub ratio_of : (x : Rat) → rat_lt x zero_rat ≡ false → (n : ℕ) × IsRatio x n (den x)
ratio_of x h =
    let top = not_below x.num (den x) (λ l. lt_not_le x zero_rat (lt_test x zero_rat l) (not_true (rat_le zero_rat x) h)) in
    (top.0, record { positive = omega arith; top = top.0; is = top.1; same = refl })

-- a ratio isn't below 0
pub not_negative : (x : Rat) (n d : ℕ) → IsRatio x n d → rat_lt x zero_rat ≡ false
not_negative x n d r = ap not (le_ratio zero_rat x 0 1 n d zero_ratio r (omega arith))

pub share_sign : (rest r total len : Rat) → rat_lt rest zero_rat ≡ false → IsTrue (rat_lt zero_rat r)
    → IsTrue (rat_lt zero_rat total) → checked_length rest total (Relative r) ≡ Ok len → rat_lt len zero_rat ≡ false
share_sign rest r total len left factor some h =
    let a = ratio_of rest left in
    let f = positive r factor in
    let t = positive total some in
    let is : divided (times rest r) total ≡ len = length_is rest total (Relative r) len h in
    subst (λ (x : Rat). rat_lt x zero_rat ≡ false) is
    (not_negative (divided (times rest r) total) _ _ (divided_ratio (times rest r) total _ _ _ _ (times_ratio rest r _ _ _ _ a.1 f.ratio) t.ratio t.some))

pub positive_sign : (x : Rat) → IsTrue (rat_lt zero_rat x) → rat_lt x zero_rat ≡ false
positive_sign x h = let p = positive x h in not_negative x p.n p.d p.ratio

-- what the absolute sizes leave isn't below 0
fits_le : (size a : Rat) (sizes : List PartSize) → is_off size a sizes ≡ false → IsTrue (rat_le a size)
fits_le size a sizes fits = elim (list_any is_relative sizes) as (λ b. (list_any is_relative sizes ≡ b) → IsTrue (rat_le a size)) [
  | true ↦ λ one. fits_relative size a sizes one fits
  | false ↦ λ none. (fits_absolute size a sizes none fits).0
] refl

pub rest_sign : (size a rest : Rat) (sizes : List PartSize) → IsTrue (rat_lt zero_rat size)
    → list_all is_positive sizes ≡ true → absolute_total zero_rat sizes ≡ Ok a
    → is_off size a sizes ≡ false → within (minus size a) ≡ Ok rest → rat_lt rest zero_rat ≡ false
rest_sign size a rest sizes some all sum fits left =
    let l = positive size some in
    let same : absolute_sum zero_rat sizes ≡ a = absolute_is zero_rat sizes a sum in
    let r = absolute_ratio zero_rat 0 1 sizes zero_ratio (are_ratios sizes all) in
    let ratio : IsRatio a r.0 r.1 = subst (λ (x : Rat). IsRatio x r.0 r.1) same r.2 in
    let m = minus_ratio size a l.n l.d r.0 r.1 l.ratio ratio (fits_le size a sizes fits) in
    subst (λ (x : Rat). rat_lt x zero_rat ≡ false) (within_is (minus size a) rest left) (not_negative (minus size a) m.0 (l.d * r.1) m.2)

-- the sum of the factors is above 0 where there is one
pub total_sign : (total : Rat) (sizes : List PartSize) → list_all is_positive sizes ≡ true
    → relative_total zero_rat sizes ≡ Ok total → IsTrue (list_any is_relative sizes) → IsTrue (rat_lt zero_rat total)
total_sign total sizes all sum one =
    let p = relative_some zero_rat 0 1 sizes zero_ratio one all in
    subst (λ (x : Rat). IsTrue (rat_lt zero_rat x)) (relative_is zero_rat sizes total sum) (lt_ratio (relative_sum zero_rat sizes) p.n p.d p.ratio p.some)

-- what a division by a number above 0 answers
pub quotient_ok : (m total len : Rat) → IsTrue (rat_lt zero_rat total) → quotient_of m total ≡ Ok len
    → within (divided m total) ≡ Ok len
quotient_ok m total len some h = let t = positive_top total some in or_err-ok_as div.Overflow Overflow (checked (divided m total)) len (sym (quotient_is m total t.0 t.1) ∙ h)

pub quotient_err : (m total : Rat) (e : DivFault) → IsTrue (rat_lt zero_rat total) → quotient_of m total ≡ Err e
    → ◌≡◌ {A = Result Rat SplitFault} (within (divided m total)) (Err Overflow)
quotient_err m total e some h = let t = positive_top total some in or_err-err_as div.Overflow e Overflow (checked (divided m total)) (sym (quotient_is m total t.0 t.1) ∙ h)

-- ---- the count and the step of Repeat

pub whole_positive : (n : ℕ) → 0 < n → IsTrue (rat_lt zero_rat (whole n))
whole_positive n some = lt_ratio (whole n) n 1 (whole_ratio n) some

pub step_sign : (size step : Rat) (n : ℕ) → IsTrue (rat_lt zero_rat size) → 0 < n
    → within (divided size (whole n)) ≡ Ok step → rat_lt step zero_rat ≡ false
step_sign size step n some many h =
    let l = positive size some in
    subst (λ (x : Rat). rat_lt x zero_rat ≡ false) (within_is (divided size (whole n)) step h) (not_negative (divided size (whole n)) l.n (l.d * n) (part_ratio size l.n l.d n l.ratio many))

pub count_some : (size length q : Rat) → IsTrue (rat_lt zero_rat size) → IsTrue (rat_lt zero_rat length)
    → within (divided size length) ≡ Ok q → 0 < count_of q
count_some size length q some step h =
    let l = positive size some in
    let s = positive length step in
    let c = count_is (divided size length) (lt_ratio (divided size length) _ _ (divided_ratio size length l.n l.d s.n s.d l.ratio s.ratio s.some) (mul-pos l.some s.ratio.positive)) in
    let e : count_of q ≡ suc c.0 = ap count_of (sym (within_is (divided size length) q h)) ∙ c.1 in
    omega (arith, e)
