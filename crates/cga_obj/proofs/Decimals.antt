-- A text that is put together from its end.
use Rattle.std.proofs.Common.{◌≡◌, ℕ, suc, ◌+◌, ◌*◌, ◌/◌, ◌%◌, ◌^◌, List, ◌∷◌, ◌++◌, refl, sym, ap, append_assoc, ◌∙◌, arith}
use Rattle.std.proofs.Math.Nat.{div-div-eq-div-mul, pow-suc}
use Rattle.std.specs.Prelude.{unsigned_abs}
use Rattle.cga_fraction.specs.Rat.{Rat, den}
use Rattle.cga_fraction.specs.Arithmetic.{with_sign}
use Rattle.cga_fraction.specs.Texts.{decimal_text_of, minus_of, padded, pointed, round_of}
use Rattle.cga_fraction.proofs.Door.{abs-with_sign}

-- the sign and the digits of the rounded number are its decimal text
pub decimal_is : (a : Rat) (places m : ℕ) (old : List ℕ)
    → m ≡ (2 * (unsigned_abs a.num * 10 ^ places) + den a) / (2 * den a)
    → minus_of (with_sign a.num m) ++ (pointed places m ++ old) ≡ decimal_text_of a places ++ old
unfolding decimal_text_of round_of
decimal_is a places m old e =
    rw (← e, abs-with_sign a.num m) (sym (append_assoc (minus_of (with_sign a.num m)) (pointed places m) old))

pub signed : (a : Rat) (places m : ℕ) (old pointed_old all : List ℕ)
    → m ≡ (2 * (unsigned_abs a.num * 10 ^ places) + den a) / (2 * den a) → pointed_old ≡ pointed places m ++ old
    → all ≡ minus_of (with_sign a.num m) ++ pointed_old → all ≡ decimal_text_of a places ++ old
signed a places m old pointed_old all e f h = h ∙ rw f (decimal_is a places m old e)

pub no_digit : (n : ℕ) (old : List ℕ) → old ≡ padded 0 n ++ old
unfolding padded
no_digit n old = refl

padded-more : (places n : ℕ) → padded (suc places) n ≡ (48 + n / 10 ^ places % 10) ∷ padded places n
unfolding padded
padded-more places n = refl

pub one_digit_more : (places n left : ℕ) (old before new : List ℕ) → left ≡ n / 10 ^ places
    → before ≡ padded places n ++ old → new ≡ (48 + left % 10) ∷ before → new ≡ padded (places + 1) n ++ old
one_digit_more places n left old before new e b f =
    let k : places + 1 ≡ suc places = omega arith in rw (f, k, padded-more places n, b, e) refl

pub one_place_less : (places n left : ℕ) → left ≡ n / 10 ^ places → left / 10 ≡ n / 10 ^ (places + 1)
one_place_less places n left e =
    let k : places + 1 ≡ suc places = omega arith in
    rw (e, k) (div-div-eq-div-mul n (10 ^ places) 10 ∙ sym (ap (λ (z : ℕ). n / z) (pow-suc 10 places)))
