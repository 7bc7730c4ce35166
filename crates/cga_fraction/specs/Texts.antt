-- The texts of rational numbers.
use Rattle.std.specs.Prelude.{◌≡◌, ◌≤◌, ◌*ℤ◌, ◌-ℤ◌, ℕ, zero, suc, ◌+◌, ◌*◌, ◌/◌, ◌%◌, ◌^◌, ℤ, pos, negsuc, unsigned_abs, List, [], ◌∷◌, ◌++◌, decimal, ◌==◌, if◌then◌else◌}
use Rattle.std.specs.Fmt.{signed_decimal}
use Rattle.cga_fraction.specs.Rat.{Rat, den}
use Rattle.cga_fraction.specs.Arithmetic.{with_sign}

-- the whole number nearest to a * 10 ^ places, and of two equally near ones the one farther from zero
unfoldable pub round_of : Rat → ℕ → ℤ
round_of a places = with_sign a.num ((2 * (unsigned_abs a.num * 10 ^ places) + den a) / (2 * den a))

-- how far z is from a * 10 ^ places, in parts of the denominator
abbrev pub distance : Rat → ℕ → ℤ → ℕ
distance a places z = unsigned_abs (a.num *ℤ pos (10 ^ places) -ℤ z *ℤ pos (den a))

-- z is as near to a * 10 ^ places as any whole number, and none that is as near is farther from zero
pub record IsNearest (a : Rat) (places : ℕ) (z : ℤ) : Type 0 where
  pub nearest : (w : ℤ) → distance a places z ≤ distance a places w
  pub farthest : (w : ℤ) → distance a places w ≡ distance a places z → unsigned_abs w ≤ unsigned_abs z

-- a minus before a number below 0
abbrev pub minus_of : ℤ → List ℕ
minus_of (pos n) = []
minus_of (negsuc n) = 45 ∷ []

-- the last so many digits of n, with leading zeros
unfoldable pub padded : ℕ → ℕ → List ℕ
padded zero n = []
padded (suc places) n = (48 + n / 10 ^ places % 10) ∷ padded places n

-- a point and so many digits; nothing where there are none
abbrev pub after_point : ℕ → ℕ → List ℕ
after_point zero n = []
after_point (suc places) n = 46 ∷ padded (suc places) n

-- the digits of n with a point before the last so many, and at least one before it
unfoldable pub pointed : ℕ → ℕ → List ℕ
pointed places n = decimal (n / 10 ^ places) ++ after_point places n

-- the decimal text of a with so many places
unfoldable pub decimal_text_of : Rat → ℕ → List ℕ
decimal_text_of a places =
    let z = round_of a places in minus_of z ++ pointed places (unsigned_abs z)

-- the numerator, and a stroke and the denominator where that isn't 1
unfoldable pub exact_text_of : Rat → List ℕ
exact_text_of a = signed_decimal a.num ++ (if a.above == 0 then [] else (47 ∷ decimal (den a)))

-- the least number of places, from some on, of which so many tenths divide into parts of d; one past the last where there is none
unfoldable pub places_from : ℕ → ℕ → ℕ → ℕ
places_from zero places d = places
places_from (suc more) places d = if 10 ^ places % d == 0 then places else places_from more (places + 1) d

-- the least number of places, up to 17, with which the decimal text of a is exact
abbrev pub least_places : Rat → ℕ
least_places a = places_from 17 0 (den a)

-- the decimal text with those places, of a number that isn't below 0
unfoldable pub literal_text_of : Rat → List ℕ
literal_text_of a = pointed (least_places a) (unsigned_abs a.num * 10 ^ least_places a / den a)
