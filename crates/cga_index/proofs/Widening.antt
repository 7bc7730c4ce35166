-- A box round many boxes: a hull with a margin.
use Rattle.std.proofs.Common.{◌≡◌, inl, inr, ℕ, ◌+◌, ◌*◌, ◌<◌, ◌≤◌, arith, refl, sym, ap, subst, ◌∙◌, true, ◌&&◌, pos, negsuc, List, length, Some, Ok, Err}
use Rattle.std.specs.Prelude.{IfOk, IfSome, IsTrue, Result, slice_get}
use Rattle.std.specs.Result.{result_ok}
use Rattle.std.proofs.Math.Nat.{mul-pos}
use Rattle.std.proofs.lemmas.Option.{slice_get_within}
use Rattle.cga_fraction.specs.Refusals.{checked}
use Rattle.cga_fraction.specs.declared.overflow.Overflow.{Overflow}
use Rattle.cga_fraction.specs.Rat.{Rat, den, of_int}
use Rattle.cga_fraction.specs.Arithmetic.{plus}
use Rattle.cga_fraction.specs.Order.{rat_le, rat_lt, positive_part, negative_part}
use Rattle.cga_fraction.proofs.Door.{checked_is, itself, le_trans, lt_diff, lt_le, lt_of_le_lt, lt_of_lt_le, of_int_diff, plus_of}
use Rattle.cga_frame.proofs.Door.{all_three, holds_trans, meets_touches, tells, three, told}
use Rattle.std.proofs.lemmas.Bool.{and_from as pair, and_parts as both, or_left as first_of_two}
use Rattle.cga_frame.specs.Meeting.{IsHull}
use Rattle.cga_frame.specs.Box.{Box, is_box, meets, touches, holds, along_meets, along_touches, along_holds}
use Rattle.cga_frame.specs.declared.point.Point.{Point}
use Rattle.cga_index.specs.Around.{IsAround, IsWider, IsWithin, shifted_by}
use Rattle.cga_fraction.proofs.Door.{lt_or_eq_from_lt_suc as at_or_below}
use Rattle.cga_index.proofs.NearAskers.{any_at}

less_naturals : (p m d : ℕ) → 0 < d → (p * 1 + 0 * d) * d + m * (d * 1) < p * (d * 1) + (m * 1 + 1 * d) * d
less_naturals p m d h = omega (arith, mul-pos {m = d} {n = d} h h)

-- one less is less
pub one_less : (a : Rat) → IsTrue (rat_lt (plus a (of_int (negsuc 0))) a)
one_less a = lt_diff (plus a (of_int (negsuc 0))) a _ _ _ _ _ _
    (plus_of a (of_int (negsuc 0)) _ _ _ _ _ _ (itself a) (of_int_diff (negsuc 0))) (itself a)
    (less_naturals (positive_part a.num) (negative_part a.num) (den a) (omega arith))

more_naturals : (p m d : ℕ) → 0 < d → p * (d * 1) + (m * 1 + 0 * d) * d < (p * 1 + 1 * d) * d + m * (d * 1)
more_naturals p m d h = omega (arith, mul-pos {m = d} {n = d} h h)

-- one more is more
pub one_more : (a : Rat) → IsTrue (rat_lt a (plus a (of_int (pos 1))))
one_more a = lt_diff a (plus a (of_int (pos 1))) _ _ _ _ _ _ (itself a)
    (plus_of a (of_int (pos 1)) _ _ _ _ _ _ (itself a) (of_int_diff (pos 1))) (more_naturals (positive_part a.num) (negative_part a.num) (den a) (omega arith))

-- what touches an interval meets each that it lies strictly inside of
wide_along : (l h m u p q : Rat) → along_touches l h m u ≡ true → IsWithin m u p q → along_meets l h p q ≡ true
wide_along l h m u p q e w =
    let t = both (rat_le l u) (rat_le m h) e in
    let right = lt_of_le_lt l u q (told (rat_le l u) t.0) w.below in
    let left = lt_of_lt_le p m h w.above (told (rat_le m h) t.1) in
    first_of_two (rat_lt l q && rat_lt p h) ((rat_le l p && rat_le p l) && (rat_le h q && rat_le q h)) (pair (rat_lt l q) (rat_lt p h) (tells _ right) (tells _ left))

pub wide_meets : (own area wide : Box) → is_box own ≡ true → meets own area ≡ true → IsWider area wide
    → meets own wide ≡ true
unfolding meets touches
wide_meets own area wide boxed e w =
    let t = three _ _ _ (meets_touches own area boxed e) in
    all_three _ _ _ (wide_along _ _ _ _ _ _ t.0 w.x) (wide_along _ _ _ _ _ _ t.1 w.y) (wide_along _ _ _ _ _ _ t.2 w.z)

within_more : (l h m u p q : Rat) → along_holds l h m u ≡ true → IsWithin l h p q → IsWithin m u p q
within_more l h m u p q e w =
    let t = both (rat_le l m) (rat_le u h) e in
    record { above = lt_of_lt_le p l m w.above (told (rat_le l m) t.0); below = lt_of_le_lt u h q (told (rat_le u h) t.1) w.below }

-- what is round a hull is round each box that it holds
pub wider_than : (hull area wide : Box) → holds hull area ≡ true → IsWider hull wide → IsWider area wide
unfolding holds
wider_than hull area wide e w =
    let t = three _ _ _ e in
    record { x = within_more _ _ _ _ _ _ t.0 w.x; y = within_more _ _ _ _ _ _ t.1 w.y; z = within_more _ _ _ _ _ _ t.2 w.z }

-- ---- a box with a margin

margin : (l h low high : Rat) → low ≡ plus l (of_int (negsuc 0)) → high ≡ plus h (of_int (pos 1))
    → IsWithin l h low high
margin l h low high e f = record { above = rw e (one_less l); below = rw f (one_more h) }

ordered : (l h low high : Rat) → rat_le l h ≡ true → IsWithin l h low high → rat_le low high ≡ true
ordered l h low high e w = tells _ (le_trans low l high (lt_le low l w.above) (le_trans l h high (told _ e) (lt_le h high w.below)))

pub shifted_is : (by : Rat) (p : Point) (x y z : Rat) → Ok x ≡ checked (plus p.x by) → Ok y ≡ checked (plus p.y by)
    → Ok z ≡ checked (plus p.z by) → record { x = x; y = y; z = z } ≡ shifted_by by p
shifted_is by p x y z e f g =
    let a = checked_is (plus p.x by) x (sym e) in
    let b = checked_is (plus p.y by) y (sym f) in
    let c = checked_is (plus p.z by) z (sym g) in
    rw (a, b, c) refl

module _ (inner : Box) (from to low high : Point) (l m : Rat) (same : record { low = from; high = to } ≡ inner) (one : l ≡ of_int (negsuc 0)) (two : m ≡ of_int (pos 1))
    (below : low ≡ shifted_by l from) (above : high ≡ shifted_by m to) where
  pub is_wider : IsWider inner (record { low = low; high = high })
  is_wider =
      let low_is : low ≡ shifted_by (of_int (negsuc 0)) from = below ∙ ap (λ by. shifted_by by from) one in
      let high_is : high ≡ shifted_by (of_int (pos 1)) to = above ∙ ap (λ by. shifted_by by to) two in
      subst (λ b. IsWider b (record { low = low; high = high })) same (record {
        x = margin _ _ _ _ (ap (λ (p : Point). p.x) low_is) (ap (λ (p : Point). p.x) high_is);
        y = margin _ _ _ _ (ap (λ (p : Point). p.y) low_is) (ap (λ (p : Point). p.y) high_is);
        z = margin _ _ _ _ (ap (λ (p : Point). p.z) low_is) (ap (λ (p : Point). p.z) high_is);
      })

  pub wider_is_box : is_box (record { low = from; high = to }) ≡ true
      → is_box (record { low = low; high = high }) ≡ true
  wider_is_box e =
      let w = subst (λ b. IsWider b (record { low = low; high = high })) (sym same) is_wider in
      let t = three (rat_le from.x to.x) (rat_le from.y to.y) (rat_le from.z to.z) e in
      all_three _ _ _ (ordered _ _ _ _ t.0 w.x) (ordered _ _ _ _ t.1 w.y) (ordered _ _ _ _ t.2 w.z)

-- of the areas the box holds the first n
abbrev pub HoldsFirst : List Box → ℕ → Box → Type 0
HoldsFirst areas n hull = (i : ℕ) (area : Box) → i < n → slice_get areas i ≡ Some area → holds hull area ≡ true

pub holds_more : (areas : List Box) (n : ℕ) (x old new : Box) → slice_get areas n ≡ Some x → IsHull old x new
    → HoldsFirst areas n old → HoldsFirst areas (n + 1) new
holds_more areas n x old new at is first i area lt here = elim (at_or_below i n lt) [
  | inl lower ↦ holds_trans new old area is.first (first i area lower here)
  | inr same ↦ (let z : Some x ≡ Some area = sym at ∙ ap (slice_get areas) (sym same) ∙ here in let y : x ≡ area = cc in subst (λ b. holds new b ≡ true) y is.second)
]

-- a box with a margin round a hull is round each box that the hull holds
around_held : (areas : List Box) (n : ℕ) (hull wide : Box) → length areas ≤ n → HoldsFirst areas n hull
    → IsWider hull wide → IsAround areas wide
around_held areas n hull wide le first w own boxed e =
    let at = any_at (meets own) areas e in
    let in_list = slice_get_within areas at.0 at.1 at.2 in
    wide_meets own at.1 wide boxed at.3 (wider_than hull at.1 wide (first at.0 at.1 (omega (arith, in_list, le)) at.2) w)

pub is_around : (areas : List Box) (n : ℕ) (hull : Box) (made : Result Box Overflow) → length areas ≤ n
    → HoldsFirst areas n hull → IfOk made (IsWider hull) → IfSome (result_ok made) (IsAround areas)
is_around areas n hull (Ok wide) le first w = around_held areas n hull wide le first w
is_around areas n hull (Err e) le first w = w
