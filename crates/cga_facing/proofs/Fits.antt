-- Points fit spots, over some lengths.
use Rattle.std.proofs.Common.{◌≡◌, ℕ, zero, suc, ◌+◌, ◌*◌, ◌<◌, List, [], ◌∷◌, length, get_or, arith, subst, Ok, Some}
use Rattle.std.proofs.Common.{Result}
use Rattle.std.specs.Prelude.{slice_get}
use Rattle.cga_fraction.specs.Rat.{Rat, zero_rat}
use Rattle.cga_fraction.proofs.Door.{IsRatio, same_Ok, same_Some}
use Rattle.cga_frame.specs.declared.point.Point.{Point}
use Rattle.cga_solid.specs.Corners.{over_base}
use Rattle.cga_solid.specs.declared.solid_fault.SolidFault.{SolidFault}
use Rattle.cga_facing.proofs.Sides.{IsOver}
use Rattle.cga_facing.proofs.Spots.{ArePositive, Lengths, Spot, base, origin, whole_of}
use Rattle.cga_facing.proofs.Measures.{none}

-- each point is the spot at its place
unfoldable pub Fits : Lengths → List Spot → List Point → Type 0
Fits l [] [] = Unit {0}
Fits l (p ∷ ps) (c ∷ cs) = IsOver l.over c (whole_of l p) × Fits l ps cs
Fits l ps cs = ⊥

pub fits_at : (l : Lengths) (ps : List Spot) (cs : List Point) (k : ℕ) (c : Point) → Fits l ps cs
    → slice_get cs k ≡ Some c → (k < length ps) × IsOver l.over c (whole_of l (get_or ps k origin))
unfolding Fits
fits_at l [] [] k c f g = absurd (cc)
fits_at l [] (x ∷ cs) k c f g = absurd f
fits_at l (p ∷ ps) [] k c f g = absurd f
fits_at l (p ∷ ps) (x ∷ cs) zero c f g =
    (omega arith, subst (λ (y : Point). IsOver l.over y (whole_of l p)) (same_Some x c g) f.0)
fits_at l (p ∷ ps) (x ∷ cs) (suc k) c f g = let r = fits_at l ps cs k c f.1 g in (omega (arith, r.0), r.1)

-- the corners fit spots over lengths above 0
pub record AreSpots (spots : List Spot) (corners : List Point) : Type 0 where
  pub lengths : Lengths
  pub positive : ArePositive lengths
  pub fits : Fits lengths spots corners

-- the number is this multiple of the first length and that of the second
abbrev pub Is : Lengths → Rat → ℕ → ℕ → Type 0
Is l q first second = IsRatio q (first * l.first + second * l.second) l.over

pub ended : (l : Lengths) → Fits l [] []
unfolding Fits
ended l = tt

-- one more corner, in front
pub next : (l : Lengths) (p : Spot) (c : Point) (ps : List Spot) (cs : List Point) → Is l c.x p.xs p.xe
    → IsRatio c.y (p.y * l.height) l.over → Is l c.z p.zs p.ze → Fits l ps cs → Fits l (p ∷ ps) (c ∷ cs)
unfolding Fits
next l p c ps cs x y z rest = (record { x = x; y = y; z = z }, rest)

pub base_fits : (l : Lengths) (far : Spot) (size : Point) (ps : List Spot) (cs : List Point) → 0 < l.over
    → Is l size.x far.xs far.xe → Is l size.z far.zs far.ze → Fits l ps cs
    → Fits l (base far ps) (over_base size cs)
base_fits l far size ps cs p x z rest =
    let a : Is l zero_rat 0 0 = none (0 * l.first + 0 * l.second) l.over (omega arith) p in
    let b : IsRatio zero_rat (0 * l.height) l.over = none (0 * l.height) l.over (omega arith) p in
    let put = next l in
    put _ _ _ _ a b a (put _ _ _ _ x b a (put _ _ _ _ x b z (put _ _ _ _ a b z rest)))

pub given : (spots : List Spot) (xs cs : List Point) → AreSpots spots xs
    → ◌≡◌ {A = Result (List Point) SolidFault} (Ok xs) (Ok cs) → AreSpots spots cs
given spots xs cs f h = subst (λ (l : List Point). AreSpots spots l) (same_Ok xs cs h) f
