-- The corners of the solids, in local coordinates.
use Rattle.std.specs.Prelude.{List, [], ◌∷◌, Result, Ok, pos}
use Rattle.cga_fraction.specs.Rat.{Rat, of_int, zero_rat}
use Rattle.cga_fraction.specs.Arithmetic.{minus, divided}
use Rattle.cga_frame.specs.declared.point.Point.{Point}
use Rattle.cga_fraction.specs.Results.{and_then}
use Rattle.cga_solid.specs.Faults.{within}
use Rattle.cga_solid.specs.declared.form.Form.{Form}
use Rattle.cga_solid.specs.declared.form.Form.TheVariants.{Cube, Shed, GableAlongX, GableAlongZ, HipAlongX, HipAlongZ, Pyramid, Quad}
use Rattle.cga_solid.specs.declared.solid_fault.SolidFault.{SolidFault}

abbrev pub point : Rat → Rat → Rat → Point
point x y z = record { x = x; y = y; z = z }

abbrev pub two : Rat
two = of_int (pos 2)

-- half of a size, where it is in range
abbrev pub half_of : Rat → Result Rat SolidFault
half_of a = within (divided a two)

-- the base 1 2 3 4, and above it the further corners
abbrev pub over_base : Point → List Point → List Point
over_base s more = point zero_rat zero_rat zero_rat ∷ point s.x zero_rat zero_rat ∷ point s.x zero_rat s.z ∷ point zero_rat zero_rat s.z ∷ more

-- the corners of a solid in a scope of this size, where each half and what it leaves is in range
unfoldable pub corners_of : Form → Point → Result (List Point) SolidFault
corners_of Cube s = Ok (over_base s (point zero_rat s.y zero_rat ∷ point s.x s.y zero_rat ∷ point s.x s.y s.z ∷ point zero_rat s.y s.z ∷ []))
corners_of Shed s = Ok (over_base s (point s.x s.y s.z ∷ point zero_rat s.y s.z ∷ []))
corners_of GableAlongX s = and_then (half_of s.z) (λ m. Ok (over_base s (point zero_rat s.y m ∷ point s.x s.y m ∷ [])))
corners_of GableAlongZ s = and_then (half_of s.x) (λ m. Ok (over_base s (point m s.y zero_rat ∷ point m s.y s.z ∷ [])))
corners_of HipAlongX s = and_then (half_of s.z) (λ m. and_then (within (minus s.x m)) (λ r. Ok (over_base s (point m s.y m ∷ point r s.y m ∷ []))))
corners_of HipAlongZ s = and_then (half_of s.x) (λ m. and_then (within (minus s.z m)) (λ r. Ok (over_base s (point m s.y m ∷ point m s.y r ∷ []))))
corners_of Pyramid s = and_then (half_of s.x) (λ m. Ok (over_base s (point m s.y m ∷ [])))
corners_of Quad s = Ok (point zero_rat zero_rat zero_rat ∷ point s.x zero_rat zero_rat ∷ point s.x s.y zero_rat ∷ point zero_rat s.y zero_rat ∷ [])
