-- The parts of Subdiv are those of its cuts, which cover the axis.
use Rattle.std.proofs.Common.{◌≡◌, ℕ, zero, suc, ◌+◌, ◌*◌, ◌<◌, List, [], ◌∷◌, Bool, true, false, inl, inr, refl, sym, ap, ◌∙◌, subst, arith, Ok, pos, negsuc, ℤ}
use Rattle.std.specs.Prelude.{Result, IsTrue, not, ◌||◌, if◌then◌else◌}
use Rattle.std.specs.List.{list_all, list_any}
use Rattle.std.proofs.Math.Nat.{mul-pos}
use Rattle.cga_fraction.specs.Rat.{Rat, den, zero_rat}
use Rattle.cga_fraction.specs.Order.{rat_le, rat_lt, positive_part, negative_part}
use Rattle.cga_fraction.specs.Arithmetic.{plus, minus, times, divided}
use Rattle.cga_fraction.proofs.Door.{IsLowest, IsRatio, and_first, and_second as and_right, and_then-ok, err_if-ok, fraction_lowest}
use Rattle.cga_fraction.proofs.Door.{le_ratio, le_refl, le_total, lt_fact, lt_le, minus_ratio, not_le_lt, plus_ratio}
use Rattle.cga_fraction.proofs.Door.{times_lowest, zero_ratio}
use Rattle.cga_split.specs.Faults.{within}
use Rattle.cga_split.specs.Cuts.{Cover, IsCut, parts_of}
use Rattle.cga_split.specs.declared.split_fault.SplitFault.{SplitFault}
use Rattle.cga_split.specs.declared.part_size.PartSize.{PartSize}
use Rattle.cga_split.specs.declared.part_size.PartSize.TheVariants.{Absolute, Relative}
use Rattle.cga_split.specs.Subdiv.{AllFractions, is_positive, is_relative, is_off, length_of, cuts_after, subdiv_cuts, absolute_sum, absolute_total, relative_sum, relative_total, subdivided}
use Rattle.cga_split.proofs.Covers.{Rises, last_of, covers}
use Rattle.cga_split.proofs.Sums.{AreRatios, Shares, shares_of, absolute_ratio, last_ratio, rises}
use Rattle.cga_split.proofs.Parts.{AllLengthsLowest, within_is, parts_are, absolute_is, relative_is}
pub use Rattle.cga_fraction.proofs.Door.{true_from_not as not_true}
use Rattle.std.proofs.lemmas.Bool.{or_parts as or_false}

-- a number above 0 is a ratio of numbers above 0
pub record IsPositive (x : Rat) : Type 0 where
  pub n : ℕ
  pub d : ℕ
  pub ratio : IsRatio x n d
  pub some : 0 < n

above : (z : ℤ) (d : ℕ) → 0 * d + negative_part z * 1 < positive_part z * 1 + 0 * d → (n : ℕ) × (z ≡ pos (suc n))
above (pos zero) d h = absurd (omega arith)
above (pos (suc n)) d h = (n, refl)
above (negsuc n) d h = absurd (omega arith)

pub positive_top : (x : Rat) → IsTrue (rat_lt zero_rat x) → (n : ℕ) × (x.num ≡ pos (suc n))
positive_top x h = above x.num (den x) (lt_fact zero_rat x h)

pub positive : (x : Rat) → IsTrue (rat_lt zero_rat x) → IsPositive x
positive x h =
    let top = above x.num (den x) (lt_fact zero_rat x h) in
    record { n = suc top.0; d = den x; ratio = record { positive = omega arith; top = suc top.0; is = top.1; same = refl }; some = omega arith }

-- sizes above 0 are ratios
pub are_ratios : (sizes : List PartSize) → list_all is_positive sizes ≡ true → AreRatios sizes
are_ratios [] h = tt
are_ratios (Absolute x ∷ sizes) h =
    let p = positive x (and_first (rat_lt zero_rat x) _ h) in (p.n, p.d, p.ratio, are_ratios sizes (and_right (rat_lt zero_rat x) _ h))
are_ratios (Relative r ∷ sizes) h =
    let p = positive r (and_first (rat_lt zero_rat r) _ h) in (p.n, p.d, p.ratio, are_ratios sizes (and_right (rat_lt zero_rat r) _ h))

-- the sum of the factors is above 0 where there is one
relative_more : (r : Rat) (n d : ℕ) (sizes : List PartSize) → IsRatio r n d → 0 < n → list_all is_positive sizes ≡ true
    → IsPositive (relative_sum r sizes)
relative_more r n d [] is some h = record { n = n; d = d; ratio = is; some = some }
relative_more r n d (Absolute x ∷ sizes) is some h = relative_more r n d sizes is some (and_right (rat_lt zero_rat x) _ h)
relative_more r n d (Relative f ∷ sizes) is some h =
    let p = positive f (and_first (rat_lt zero_rat f) _ h) in
    relative_more (plus r f) (n * p.d + p.n * d) (d * p.d) sizes (plus_ratio r f n d p.n p.d is p.ratio) (let s = mul-pos some p.ratio.positive in omega (arith, s)) (and_right (rat_lt zero_rat f) _ h)

pub relative_some : (r : Rat) (n d : ℕ) (sizes : List PartSize) → IsRatio r n d → list_any is_relative sizes ≡ true
    → list_all is_positive sizes ≡ true → IsPositive (relative_sum r sizes)
relative_some r n d [] is one h = cc
relative_some r n d (Absolute x ∷ sizes) is one h = relative_some r n d sizes is one (and_right (rat_lt zero_rat x) _ h)
relative_some r n d (Relative f ∷ sizes) is one h =
    let p = positive f (and_first (rat_lt zero_rat f) _ h) in
    relative_more (plus r f) (n * p.d + p.n * d) (d * p.d) sizes (plus_ratio r f n d p.n p.d is p.ratio) (let s = mul-pos p.some is.positive in omega (arith, s)) (and_right (rat_lt zero_rat f) _ h)

-- with no relative size the last cut is the sum of the absolute ones
absolute_end : (rest total at : Rat) (sizes : List PartSize) → list_any is_relative sizes ≡ false
    → last_of at (cuts_after rest total at sizes) ≡ absolute_sum at sizes
absolute_end rest total at [] none = refl
absolute_end rest total at (Absolute x ∷ sizes) none = absolute_end rest total (plus at x) sizes none
absolute_end rest total at (Relative r ∷ sizes) none = cc

absolute_shares : (rest total : Rat) (sizes : List PartSize) → list_any is_relative sizes ≡ false → AreRatios sizes
    → Shares rest total 1 0 sizes
absolute_shares rest total [] none are = tt
absolute_shares rest total (Absolute x ∷ sizes) none are = (are.0, are.1, are.2, absolute_shares rest total sizes none are.3)
absolute_shares rest total (Relative r ∷ sizes) none are = cc

-- a quotient is in lowest terms
pub divided_lowest : (a b : Rat) → IsLowest (divided a b)
unfolding divided
divided_lowest a b = times_lowest _ _

lengths_lowest : (rest total : Rat) (sizes : List PartSize) → AllFractions sizes → AllLengthsLowest rest total sizes
lengths_lowest rest total [] low = tt
lengths_lowest rest total (Absolute x ∷ sizes) low = (fraction_lowest x low.0, lengths_lowest rest total sizes low.1)
lengths_lowest rest total (Relative r ∷ sizes) low = (divided_lowest (times rest r) total, lengths_lowest rest total sizes low.1)

-- the sums are not off: with a relative size something is left, and without one nothing is
pub fits_relative : (size a : Rat) (sizes : List PartSize) → list_any is_relative sizes ≡ true
    → is_off size a sizes ≡ false → IsTrue (rat_le a size)
fits_relative size a sizes one fits =
    let e : rat_le size a ≡ false = sym (ap (λ (b : Bool). if b then rat_le size a else (rat_lt size a || rat_lt a size)) one) ∙ fits in
    lt_le a size (not_le_lt a size (λ h. cc))

not_lt_le : (a b : Rat) → rat_lt a b ≡ false → IsTrue (rat_le b a)
not_lt_le a b h = elim (le_total b a) [ inl le ↦ le | inr le ↦ not_true (rat_le b a) h ]

pub fits_absolute : (size a : Rat) (sizes : List PartSize) → list_any is_relative sizes ≡ false
    → is_off size a sizes ≡ false → IsTrue (rat_le a size) × IsTrue (rat_le size a)
fits_absolute size a sizes none fits =
    let e : (rat_lt size a || rat_lt a size) ≡ false = sym (ap (λ (b : Bool). if b then rat_le size a else (rat_lt size a || rat_lt a size)) none) ∙ fits in
    let both = or_false (rat_lt size a) (rat_lt a size) e in
    (not_lt_le size a both.0, not_lt_le a size both.1)

-- cuts that rise to the size cover it
cover_of : (rest total size : Rat) (s : PartSize) (ss : List PartSize)
    → Rises zero_rat (cuts_after rest total zero_rat (s ∷ ss))
    → IsTrue (rat_le (last_of zero_rat (cuts_after rest total zero_rat (s ∷ ss))) size)
    → IsTrue (rat_le size (last_of zero_rat (cuts_after rest total zero_rat (s ∷ ss))))
    → Cover (zero_rat ∷ cuts_after rest total zero_rat (s ∷ ss)) size
cover_of rest total size s ss rise below above =
    covers zero_rat (plus zero_rat (length_of rest total s)) (cuts_after rest total (plus zero_rat (length_of rest total s)) ss) size (le_refl zero_rat) (le_refl zero_rat) rise below above

module _ (size : Rat) (s : PartSize) (ss : List PartSize) (all : list_all is_positive (s ∷ ss) ≡ true) (some : IsTrue (rat_lt zero_rat size)) where
  cover_relative : list_any is_relative (s ∷ ss) ≡ true → IsTrue (rat_le (absolute_sum zero_rat (s ∷ ss)) size)
      → Cover (subdiv_cuts size (s ∷ ss)) size
  cover_relative one le =
      let l = positive size some in
      let are = are_ratios (s ∷ ss) all in
      let t = relative_some zero_rat 0 1 (s ∷ ss) zero_ratio one all in
      let a = absolute_ratio zero_rat 0 1 (s ∷ ss) zero_ratio are in
      let m = minus_ratio size (absolute_sum zero_rat (s ∷ ss)) l.n l.d a.0 a.1 l.ratio a.2 le in
      let end = last_ratio size (s ∷ ss) l.n l.d t.n t.d l.ratio are t.ratio t.some le in
      let rise = rises (minus size (absolute_sum zero_rat (s ∷ ss))) (relative_sum zero_rat (s ∷ ss)) zero_rat 0 1 (l.d * a.1 * t.n) (m.0 * t.d) (s ∷ ss) zero_ratio
      (shares_of (minus size (absolute_sum zero_rat (s ∷ ss))) (relative_sum zero_rat (s ∷ ss)) m.0 (l.d * a.1) t.n t.d (s ∷ ss) m.2 t.ratio t.some are) in
      cover_of (minus size (absolute_sum zero_rat (s ∷ ss))) (relative_sum zero_rat (s ∷ ss)) size s ss rise
      (le_ratio _ size l.n l.d l.n l.d end l.ratio (omega arith)) (le_ratio size _ l.n l.d l.n l.d l.ratio end (omega arith))

  cover_absolute : list_any is_relative (s ∷ ss) ≡ false
      → IsTrue (rat_le (absolute_sum zero_rat (s ∷ ss)) size) × IsTrue (rat_le size (absolute_sum zero_rat (s ∷ ss)))
      → Cover (subdiv_cuts size (s ∷ ss)) size
  cover_absolute none le =
      let rest = minus size (absolute_sum zero_rat (s ∷ ss)) in
      let total = relative_sum zero_rat (s ∷ ss) in
      let end : last_of zero_rat (cuts_after rest total zero_rat (s ∷ ss)) ≡ absolute_sum zero_rat (s ∷ ss) = absolute_end rest total zero_rat (s ∷ ss) none in
      cover_of rest total size s ss (rises rest total zero_rat 0 1 1 0 (s ∷ ss) zero_ratio (absolute_shares rest total (s ∷ ss) none (are_ratios (s ∷ ss) all)))
      (subst (λ (x : Rat). IsTrue (rat_le x size)) (sym end) le.0) (subst (λ (x : Rat). IsTrue (rat_le size x)) (sym end) le.1)

  covered : is_off size (absolute_sum zero_rat (s ∷ ss)) (s ∷ ss) ≡ false → Cover (subdiv_cuts size (s ∷ ss)) size
  covered fits = elim (list_any is_relative (s ∷ ss)) as (λ b. (list_any is_relative (s ∷ ss) ≡ b) → Cover (subdiv_cuts size (s ∷ ss)) size) [
    | true ↦ λ one. cover_relative one (fits_relative size _ (s ∷ ss) one fits)
    | false ↦ λ none. cover_absolute none (fits_absolute size _ (s ∷ ss) none fits)
  ] refl

pub subdivided_is : {P : Type 0} (part : Rat → Rat → Result P SplitFault) (place : Rat → Rat → P)
    → ((a len : Rat) (p : P) → part a len ≡ Ok p → p ≡ place a len)
    → (size : Rat) (s : PartSize) (ss : List PartSize) (ps : List P) → AllFractions (s ∷ ss)
    → subdivided part size (s ∷ ss) ≡ Ok ps → IsCut place (subdiv_cuts size (s ∷ ss)) size ps
unfolding subdivided
subdivided_is part place exact size s ss ps low h =
    let flat = err_if-ok (not (rat_lt zero_rat size)) _ _ ps h in
    let few = err_if-ok (not (list_all is_positive (s ∷ ss))) _ _ ps flat.1 in
    let a = and_then-ok (absolute_total zero_rat (s ∷ ss)) _ ps few.1 in
    let r = and_then-ok (relative_total zero_rat (s ∷ ss)) _ ps a.2 in
    let off = err_if-ok (is_off size a.0 (s ∷ ss)) _ _ ps r.2 in
    let rest = and_then-ok (within (minus size a.0)) _ ps off.1 in
    let sum : absolute_sum zero_rat (s ∷ ss) ≡ a.0 = absolute_is zero_rat (s ∷ ss) a.0 a.1 in
    let factors : relative_sum zero_rat (s ∷ ss) ≡ r.0 = relative_is zero_rat (s ∷ ss) r.0 r.1 in
    let left : minus size (absolute_sum zero_rat (s ∷ ss)) ≡ rest.0 = ap (minus size) sum ∙ within_is (minus size a.0) rest.0 rest.1 in
    let parts = parts_are part place exact rest.0 r.0 zero_rat (s ∷ ss) ps (lengths_lowest rest.0 r.0 (s ∷ ss) low) rest.2 in
    record {
      parts = parts ∙ ap (λ (x : Rat). parts_of place (zero_rat ∷ cuts_after x r.0 zero_rat (s ∷ ss))) (sym left)
          ∙ ap (λ (x : Rat). parts_of place (zero_rat ∷ cuts_after (minus size (absolute_sum zero_rat (s ∷ ss))) x zero_rat (s ∷ ss))) (sym factors);
      cover = covered size s ss (not_true _ few.0) (not_true _ flat.0) (ap (λ (x : Rat). is_off size x (s ∷ ss)) sum ∙ off.0);
    }

-- what holds of the sizes that are left holds of all but the first of them
pub all_more : (all more : List PartSize) (s : PartSize) → all ≡ s ∷ more → IsTrue (list_all is_positive all)
    → IsTrue (list_all is_positive more)
all_more all more s e h = and_right (is_positive s) (list_all is_positive more) (sym (ap (list_all is_positive) e) ∙ h)

any_of : (a b : Bool) → IsTrue b → IsTrue (a || b)
any_of true b h = refl
any_of false b h = h

pub any_more : (all more : List PartSize) (s : PartSize) → all ≡ s ∷ more → IsTrue (list_any is_relative more)
    → IsTrue (list_any is_relative all)
any_more all more s e h = ap (list_any is_relative) e ∙ any_of (is_relative s) (list_any is_relative more) h
