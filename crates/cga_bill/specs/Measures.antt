-- How much of a facade and of a building an instance is.
use Rattle.std.specs.Prelude.{ℕ, unsigned_abs, Result, Ok}
use Rattle.cga_fraction.specs.Rat.{Rat}
use Rattle.cga_fraction.specs.Arithmetic.{times}
use Rattle.cga_fraction.specs.Refusals.{checked}
use Rattle.cga_fraction.specs.Results.{and_then}
use Rattle.cga_fraction.specs.Texts.{round_of}
use Rattle.cga_fraction.specs.declared.overflow.Overflow.{Overflow}
use Rattle.cga_frame.specs.Scope.{Scope}
use Rattle.cga_bill.specs.declared.measure.Measure.{Measure}

-- the nearest whole number of millionths, of a number that isn't below 0
abbrev pub millionths_of : Rat → ℕ
millionths_of a = unsigned_abs (round_of a 6)

-- the front's area and the volume, where both are in range
unfoldable pub measure_of : Scope → Result Measure Overflow
measure_of s =
    and_then (checked (times s.size.x s.size.y)) (λ area.
    and_then (checked (times area s.size.z)) (λ volume.
    Ok (record { front = millionths_of area; volume = millionths_of volume })))
