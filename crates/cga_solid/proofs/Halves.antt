-- Halves of sizes, and what they leave.
use Rattle.std.proofs.Common.{◌≡◌, ℕ, ◌+◌, ◌*◌, ◌≤◌, arith, refl, sym, ◌∙◌, Ok, Err, Result}
use Rattle.std.specs.Prelude.{IsTrue}
use Rattle.std.proofs.Math.Nat.{mul-pos, mul-le-mul_right}
use Rattle.cga_fraction.specs.Rat.{Rat, den, zero_rat}
use Rattle.cga_fraction.specs.Order.{rat_le}
use Rattle.cga_fraction.specs.Arithmetic.{minus, divided}
use Rattle.cga_fraction.specs.Refusals.{checked, quotient_of}
use Rattle.cga_fraction.specs.Results.{or_err}
use Rattle.cga_fraction.proofs.Door.{IsRatio, checked_is, divided_ratio, le_ratio, like, minus_ratio, or_err-err_as, or_err-ok, or_err-ok_as, ratio_le, shown_ratio, whole_ratio, zero_ratio}
use Rattle.cga_fraction.specs.declared.overflow.DivFault.TheVariants as div
use Rattle.cga_fraction.specs.declared.overflow.DivFault.{DivFault}
use Rattle.cga_solid.specs.Faults.{within}
use Rattle.cga_solid.specs.Corners.{half_of, two}
use Rattle.cga_solid.specs.declared.solid_fault.SolidFault.{SolidFault}
use Rattle.cga_solid.specs.declared.solid_fault.SolidFault.TheVariants.{Overflow}

-- ---- what the code's quotient says

by_two : (a b : Rat) → b ≡ two → quotient_of a b ≡ or_err div.Overflow (checked (divided a two))
unfolding quotient_of
by_two a b e = rw e refl

pub half_ok : (a b m : Rat) → b ≡ two → quotient_of a b ≡ Ok m → half_of a ≡ Ok m
half_ok a b m e h = or_err-ok_as div.Overflow Overflow (checked (divided a two)) m (sym (by_two a b e) ∙ h)

pub half_err : (a b : Rat) (f : DivFault) → b ≡ two → quotient_of a b ≡ Err f
    → ◌≡◌ {A = Result Rat SolidFault} (half_of a) (Err Overflow)
half_err a b f e h = or_err-err_as div.Overflow f Overflow (checked (divided a two)) (sym (by_two a b e) ∙ h)

-- ---- what is in range is the number

-- what is in range is the number
pub within_is : (a q : Rat) → within a ≡ Ok q → a ≡ q
within_is a q h = checked_is a q (or_err-ok Overflow (checked a) q h)

-- ---- halves lie within sizes

-- a number from 0 to the size
pub record IsWithin (x size : Rat) : Type 0 where
  pub low : IsTrue (rat_le zero_rat x)
  pub high : IsTrue (rat_le x size)

half_ratio : (w : Rat) (n d : ℕ) → IsRatio w n d → IsRatio (divided w two) n (d * 2)
half_ratio w n d r = like (divided w two) _ _ n (d * 2) (divided_ratio w two n d 2 1 r (whole_ratio 2) (omega arith)) (omega arith) (mul-pos r.positive (omega arith))

half_naturals : (d w : Rat) (nd dd nw dw : ℕ) → IsRatio d nd dd → IsRatio w nw dw → nd * dw ≤ nw * dd
    → IsWithin (divided d two) w
half_naturals d w nd dd nw dw r s h = record {
  low = le_ratio zero_rat (divided d two) 0 1 nd (dd * 2) zero_ratio (half_ratio d nd dd r) (omega arith);
  high = le_ratio (divided d two) w nd (dd * 2) nw dw (half_ratio d nd dd r) s (omega arith);
}

rest_bound : (k nd dw nw dd : ℕ) → k + nd * dw ≡ nw * (dd * 2) → k * dw ≤ nw * (dw * (dd * 2))
rest_bound k nd dw nw dd h =
    let x : k ≤ nw * (dd * 2) = omega arith in
    let y : k * dw ≤ nw * (dd * 2) * dw = mul-le-mul_right dw x in omega arith

rest_naturals : (d w : Rat) (nd dd nw dw : ℕ) → IsRatio d nd dd → IsRatio w nw dw → nd * dw ≤ nw * dd
    → IsWithin (minus w (divided d two)) w
rest_naturals d w nd dd nw dw r s h =
    let v = half_naturals d w nd dd nw dw r s h in
    let m = minus_ratio w (divided d two) nw dw nd (dd * 2) s (half_ratio d nd dd r) v.high in
    record {
      low = le_ratio zero_rat (minus w (divided d two)) 0 1 m.0 (dw * (dd * 2)) zero_ratio m.2 (omega arith);
      high = le_ratio (minus w (divided d two)) w m.0 (dw * (dd * 2)) nw dw m.2 s (rest_bound m.0 nd dw nw dd m.1);
    }

-- half of the one size is within the other that isn't smaller
pub half_within : (d w : Rat) → IsTrue (rat_le zero_rat d) → IsTrue (rat_le zero_rat w) → IsTrue (rat_le d w)
    → IsWithin (divided d two) w
half_within d w f g h =
    let r = shown_ratio d f in
    let s = shown_ratio w g in
    half_naturals d w r.0 (den d) s.0 (den w) r.1 s.1 (ratio_le d w r.0 (den d) s.0 (den w) r.1 s.1 h)

-- and so is what it leaves
pub rest_within : (d w : Rat) → IsTrue (rat_le zero_rat d) → IsTrue (rat_le zero_rat w) → IsTrue (rat_le d w)
    → IsWithin (minus w (divided d two)) w
rest_within d w f g h =
    let r = shown_ratio d f in
    let s = shown_ratio w g in
    rest_naturals d w r.0 (den d) s.0 (den w) r.1 s.1 (ratio_le d w r.0 (den d) s.0 (den w) r.1 s.1 h)
