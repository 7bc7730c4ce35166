-- Numbers whose decimals 64 bits are enough for.
use Rattle.std.specs.Prelude.{◌<◌, ◌^◌, unsigned_abs}
use Rattle.cga_fraction.specs.Rat.{Rat, den}

pub record IsNarrow (a : Rat) : Type 0 where
  pub numerator : unsigned_abs a.num < 2 ^ 32
  pub denominator : den a < 2 ^ 32
