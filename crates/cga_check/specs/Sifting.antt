-- The first use that a test catches.
use Rattle.std.specs.Prelude.{Bool, [], ◌∷◌, Result, Ok, Err, if◌then◌else◌}
use Rattle.cga_check.specs.Uses.{Uses}
use Rattle.cga_check.specs.declared.usage.Use.{Use}

-- Err with the first use that the test catches, or Ok where it catches none
unfoldable pub sifted : (Use → Bool) → Uses → Result (Unit {0}) Use
sifted test [] = Ok tt
sifted test (u ∷ us) = if test u then Err u else sifted test us
