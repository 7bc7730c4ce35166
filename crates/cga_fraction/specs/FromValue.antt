-- A `Fraction` from its value.
use Rattle.std.specs.Prelude.{◌≡◌, ℕ, ◌+◌, ◌-◌}
use Rattle.std.proofs.Common.{arith, ap}
use Rattle.cga_fraction.specs.declared.fraction.Fraction.TheInside.{Inside}
use Rattle.cga_fraction.specs.Rat.{IsReduced}

-- the numerator and the denominator make the fraction anew
pub inverse_ok : (a : Inside) → IsReduced a.numerator a.denominator
    → ◌≡◌ {A = Inside} (record { numerator = a.numerator; denominator = a.denominator - 1 + 1 }) a
inverse_ok a h =
    let p = h.positive in
    let e : a.denominator - 1 + 1 ≡ a.denominator = omega arith in
    let f : ℕ → Inside = λ (d : ℕ). record { numerator = a.numerator; denominator = d } in
    ap f e
