-- The list that fixed corners are.
use Rattle.std.specs.Prelude.{◌≡◌, List, Result, Ok, Err, MatchResult}
use Rattle.cga_frame.specs.declared.point.Point.{Point}
use Rattle.cga_solid.specs.declared.corners.Corners.{Corners}
use Rattle.cga_solid.specs.declared.corners.Corners.TheVariants.{Four, Five, Six, Eight}
use Rattle.cga_solid.specs.declared.solid_fault.SolidFault.{SolidFault}

abbrev pub listed : Corners → List Point
listed (Four points) = points
listed (Five points) = points
listed (Six points) = points
listed (Eight points) = points

-- the corners are those of the definition, or the fault is
abbrev pub Lists : Result (List Point) SolidFault → Result Corners SolidFault → Type 0
Lists r given = MatchResult given (λ corners. r ≡ Ok (listed corners)) (λ fault. r ≡ Err fault)
