-- The corners of a solid are the spots of its form, over some lengths.
use Rattle.std.proofs.Common.{◌≡◌, ℕ, ◌+◌, ◌-◌, ◌*◌, ◌<◌, ◌≤◌, List, [], ◌∷◌, arith, Ok, Result}
use Rattle.std.specs.Prelude.{IsTrue}
use Rattle.cga_fraction.specs.Rat.{Rat, zero_rat}
use Rattle.cga_fraction.specs.Order.{rat_le, rat_lt}
use Rattle.cga_fraction.specs.Arithmetic.{minus}
use Rattle.cga_fraction.specs.Results.{and_then}
use Rattle.cga_fraction.proofs.Door.{IsRatio, and_then-ok}
use Rattle.cga_frame.specs.declared.point.Point.{Point}
use Rattle.cga_solid.specs.Corners.{half_of, over_base, point}
use Rattle.cga_solid.specs.Faults.{within}
use Rattle.cga_solid.specs.declared.solid_fault.SolidFault.{SolidFault}
use Rattle.cga_facing.proofs.Spots.{ArePositive, Lengths, cube, shed, gable_x, gable_z, hip_x, hip_z, pyramid, quad}
use Rattle.cga_facing.proofs.Spots.{spot, two_by_two}
use Rattle.cga_facing.proofs.Measures.{half_ratio, Measures, same, none, rest_is, less, at_most}
use Rattle.cga_facing.proofs.Fits.{AreSpots, Is, ended, next, base_fits, given}

-- ---- the corners of each form, as the table has them

abbrev pub Corners : Type 0
Corners = Result (List Point) SolidFault

abbrev pub cube_of : Point → Corners
cube_of s = Ok (over_base s (point zero_rat s.y zero_rat ∷ point s.x s.y zero_rat ∷ point s.x s.y s.z ∷ point zero_rat s.y s.z ∷ []))

abbrev pub shed_of : Point → Corners
shed_of s = Ok (over_base s (point s.x s.y s.z ∷ point zero_rat s.y s.z ∷ []))

abbrev pub gable_x_of : Point → Corners
gable_x_of s = and_then (half_of s.z) (λ m. Ok (over_base s (point zero_rat s.y m ∷ point s.x s.y m ∷ [])))

abbrev pub gable_z_of : Point → Corners
gable_z_of s = and_then (half_of s.x) (λ m. Ok (over_base s (point m s.y zero_rat ∷ point m s.y s.z ∷ [])))

abbrev pub hip_x_of : Point → Corners
hip_x_of s = and_then (half_of s.z) (λ m. and_then (within (minus s.x m)) (λ r. Ok (over_base s (point m s.y m ∷ point r s.y m ∷ []))))

abbrev pub hip_z_of : Point → Corners
hip_z_of s = and_then (half_of s.x) (λ m. and_then (within (minus s.z m)) (λ r. Ok (over_base s (point m s.y m ∷ point m s.y r ∷ []))))

abbrev pub pyramid_of : Point → Corners
pyramid_of s = and_then (half_of s.x) (λ m. Ok (over_base s (point m s.y m ∷ [])))

abbrev pub quad_of : Point → Corners
quad_of s = Ok (point zero_rat zero_rat zero_rat ∷ point s.x zero_rat zero_rat ∷ point s.x s.y zero_rat ∷ point zero_rat s.y zero_rat ∷ [])

-- ---- form by form

-- what the corners of all forms are made of
record Sides (l : Lengths) (size : Point) : Type 0 where
  positive : 0 < l.over
  lengths : ArePositive l
  none : Is l zero_rat 0 0
  high : IsRatio size.y (2 * l.height) l.over

-- these two lengths, and the height of the measures
abbrev lengths_of : {x y z : Rat} → Measures x y z → ℕ → ℕ → Lengths
lengths_of m first second = record { over = m.k * 2; first = first; height = m.h; second = second }

sides_of : (size : Point) (z : Rat) (m : Measures size.x size.y z) (first second : ℕ) → 0 < first → 0 < second
    → Sides (lengths_of m first second) size
sides_of size z m first second p q = record {
  positive = m.positive;
  lengths = record { first = p; height = m.high; second = q };
  none = none (0 * first + 0 * second) (m.k * 2) (omega arith) m.positive;
  high = same size.y (m.h * 2) (2 * m.h) (m.k * 2) m.along_y (omega arith);
}

pub cube_fits : (size : Point) (cs : List Point) → Measures size.x size.y size.z → cube_of size ≡ Ok cs
    → AreSpots cube cs
cube_fits size cs m h =
    let l = lengths_of m m.w m.d in
    let k = sides_of size size.z m m.w m.d m.wide m.deep in
    let x : Is l size.x 2 0 = same size.x _ _ _ m.along_x (omega arith) in
    let z : Is l size.z 0 2 = same size.z _ _ _ m.along_z (omega arith) in
    let put = next l in
    given cube _ cs (record {
      lengths = l;
      positive = k.lengths;
      fits = base_fits l two_by_two size _ _ k.positive x z
          (put _ _ _ _ k.none k.high k.none
          (put _ _ _ _ x k.high k.none
          (put _ _ _ _ x k.high z
          (put _ _ _ _ k.none k.high z (ended l)))));
    }) h

pub shed_fits : (size : Point) (cs : List Point) → Measures size.x size.y size.z → shed_of size ≡ Ok cs
    → AreSpots shed cs
shed_fits size cs m h =
    let l = lengths_of m m.w m.d in
    let k = sides_of size size.z m m.w m.d m.wide m.deep in
    let x : Is l size.x 2 0 = same size.x _ _ _ m.along_x (omega arith) in
    let z : Is l size.z 0 2 = same size.z _ _ _ m.along_z (omega arith) in
    let put = next l in
    given shed _ cs (record {
      lengths = l;
      positive = k.lengths;
      fits = base_fits l two_by_two size _ _ k.positive x z
          (put _ _ _ _ x k.high z
          (put _ _ _ _ k.none k.high z (ended l)));
    }) h

pub gable_x_fits : (size : Point) (cs : List Point) → Measures size.x size.y size.z → gable_x_of size ≡ Ok cs
    → AreSpots gable_x cs
gable_x_fits size cs m h =
    let l = lengths_of m m.w m.d in
    let k = sides_of size size.z m m.w m.d m.wide m.deep in
    let x : Is l size.x 2 0 = same size.x _ _ _ m.along_x (omega arith) in
    let z : Is l size.z 0 2 = same size.z _ _ _ m.along_z (omega arith) in
    let a = and_then-ok (half_of size.z) _ cs h in
    let middle : Is l a.0 0 1 = same a.0 _ _ _ (half_ratio size.z a.0 m.d m.k a.1 m.along_z) (omega arith) in
    let put = next l in
    given gable_x _ cs (record {
      lengths = l;
      positive = k.lengths;
      fits = base_fits l two_by_two size _ _ k.positive x z
          (put _ _ _ _ k.none k.high middle
          (put _ _ _ _ x k.high middle (ended l)));
    }) a.2

pub gable_z_fits : (size : Point) (cs : List Point) → Measures size.x size.y size.z → gable_z_of size ≡ Ok cs
    → AreSpots gable_z cs
gable_z_fits size cs m h =
    let l = lengths_of m m.w m.d in
    let k = sides_of size size.z m m.w m.d m.wide m.deep in
    let x : Is l size.x 2 0 = same size.x _ _ _ m.along_x (omega arith) in
    let z : Is l size.z 0 2 = same size.z _ _ _ m.along_z (omega arith) in
    let a = and_then-ok (half_of size.x) _ cs h in
    let middle : Is l a.0 1 0 = same a.0 _ _ _ (half_ratio size.x a.0 m.w m.k a.1 m.along_x) (omega arith) in
    let put = next l in
    given gable_z _ cs (record {
      lengths = l;
      positive = k.lengths;
      fits = base_fits l two_by_two size _ _ k.positive x z
          (put _ _ _ _ middle k.high k.none
          (put _ _ _ _ middle k.high z (ended l)));
    }) a.2

pub quad_fits : (size : Point) (cs : List Point) → Measures size.x size.y size.y → quad_of size ≡ Ok cs
    → AreSpots quad cs
quad_fits size cs m h =
    let l = lengths_of m m.w 1 in
    let k = sides_of size size.y m m.w 1 m.wide (omega arith) in
    let x : Is l size.x 2 0 = same size.x _ _ _ m.along_x (omega arith) in
    let low : IsRatio zero_rat (0 * m.h) (m.k * 2) = none _ _ (omega arith) m.positive in
    let put = next l in
    given quad _ cs (record {
      lengths = l;
      positive = k.lengths;
      fits = put _ _ _ _ k.none low k.none
          (put _ _ _ _ x low k.none
          (put _ _ _ _ x k.high k.none
          (put _ _ _ _ k.none k.high k.none (ended l))));
    }) h

pub hip_x_fits : (size : Point) (cs : List Point) → Measures size.x size.y size.z → IsTrue (rat_lt size.z size.x)
    → hip_x_of size ≡ Ok cs → AreSpots hip_x cs
hip_x_fits size cs m g h =
    let longer : m.d * 2 < m.w * 2 = less size.z size.x (m.d * 2) (m.w * 2) (m.k * 2) m.along_z m.along_x g in
    let l = lengths_of m m.d (m.w - m.d) in
    let k = sides_of size size.z m m.d (m.w - m.d) m.deep (omega arith) in
    let x : Is l size.x 2 2 = same size.x _ _ _ m.along_x (omega arith) in
    let z : Is l size.z 2 0 = same size.z _ _ _ m.along_z (omega arith) in
    let a = and_then-ok (half_of size.z) _ cs h in
    let b = and_then-ok (within (minus size.x a.0)) _ cs a.2 in
    let half = half_ratio size.z a.0 m.d m.k a.1 m.along_z in
    let inset : Is l a.0 1 0 = same a.0 _ _ _ half (omega arith) in
    let far : Is l b.0 1 2 = same b.0 _ _ _ (rest_is size.x a.0 b.0 m.w m.d (m.k * 2) b.1 m.along_x half (omega arith)) (omega arith) in
    let put = next l in
    given hip_x _ cs (record {
      lengths = l;
      positive = k.lengths;
      fits = base_fits l (spot 2 2 0 2 0) size _ _ k.positive x z
          (put _ _ _ _ inset k.high inset
          (put _ _ _ _ far k.high inset (ended l)));
    }) b.2

pub hip_z_fits : (size : Point) (cs : List Point) → Measures size.x size.y size.z → IsTrue (rat_lt size.x size.z)
    → hip_z_of size ≡ Ok cs → AreSpots hip_z cs
hip_z_fits size cs m g h =
    let longer : m.w * 2 < m.d * 2 = less size.x size.z (m.w * 2) (m.d * 2) (m.k * 2) m.along_x m.along_z g in
    let l = lengths_of m m.w (m.d - m.w) in
    let k = sides_of size size.z m m.w (m.d - m.w) m.wide (omega arith) in
    let x : Is l size.x 2 0 = same size.x _ _ _ m.along_x (omega arith) in
    let z : Is l size.z 2 2 = same size.z _ _ _ m.along_z (omega arith) in
    let a = and_then-ok (half_of size.x) _ cs h in
    let b = and_then-ok (within (minus size.z a.0)) _ cs a.2 in
    let half = half_ratio size.x a.0 m.w m.k a.1 m.along_x in
    let inset : Is l a.0 1 0 = same a.0 _ _ _ half (omega arith) in
    let far : Is l b.0 1 2 = same b.0 _ _ _ (rest_is size.z a.0 b.0 m.d m.w (m.k * 2) b.1 m.along_z half (omega arith)) (omega arith) in
    let put = next l in
    given hip_z _ cs (record {
      lengths = l;
      positive = k.lengths;
      fits = base_fits l (spot 2 0 0 2 2) size _ _ k.positive x z
          (put _ _ _ _ inset k.high inset
          (put _ _ _ _ inset k.high far (ended l)));
    }) b.2

pub pyramid_fits : (size : Point) (cs : List Point) → Measures size.x size.y size.z → IsTrue (rat_le size.x size.z)
    → IsTrue (rat_le size.z size.x) → pyramid_of size ≡ Ok cs → AreSpots pyramid cs
pyramid_fits size cs m f g h =
    let low : m.w * 2 ≤ m.d * 2 = at_most size.x size.z (m.w * 2) (m.d * 2) (m.k * 2) m.along_x m.along_z f in
    let high : m.d * 2 ≤ m.w * 2 = at_most size.z size.x (m.d * 2) (m.w * 2) (m.k * 2) m.along_z m.along_x g in
    let l = lengths_of m m.w 1 in
    let k = sides_of size size.z m m.w 1 m.wide (omega arith) in
    let x : Is l size.x 2 0 = same size.x _ _ _ m.along_x (omega arith) in
    let z : Is l size.z 2 0 = same size.z _ _ _ m.along_z (omega arith) in
    let a = and_then-ok (half_of size.x) _ cs h in
    let inset : Is l a.0 1 0 = same a.0 _ _ _ (half_ratio size.x a.0 m.w m.k a.1 m.along_x) (omega arith) in
    let put = next l in
    given pyramid _ cs (record {
      lengths = l;
      positive = k.lengths;
      fits = base_fits l (spot 2 0 0 2 0) size _ _ k.positive x z
          (put _ _ _ _ inset k.high inset (ended l));
    }) a.2
