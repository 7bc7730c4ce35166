-- The texts of numbers, digit by digit.
use Rattle.std.proofs.Common.{◌≡◌, ℕ, zero, suc, ◌+◌, ◌-◌, ◌/◌, ◌%◌, ◌^◌, ◌<◌, ◌≤◌, List, [], ◌∷◌, ◌++◌, take, drop, length, set, slice_index_or, refl, sym, ◌∙◌, ap, arith, append_assoc, ℤ, ◌*◌}
use Rattle.std.proofs.lemmas.List.{append-nil, drop-set, take_all}
use Rattle.std.proofs.Math.Nat.{div-div-eq-div-mul, one-le-pow, pow-suc}
use Rattle.cga_fraction.specs.Texts.{padded, pointed, round_of}
use Rattle.cga_fraction.specs.Rat.{Rat}
use Rattle.cga_fraction.specs.Arithmetic.{with_sign}
use Rattle.cga_fraction.proofs.Order.{by_parts}
use Rattle.std.specs.Prelude.{decimal, unsigned_abs}

-- a power of ten is above 0
pub ten_positive : (p k : ℕ) → p ≡ 10 ^ k → 0 < p
ten_positive p k e = rw e (one-le-pow k 10 (omega arith))

-- the first digit, and then the others
pub padded-one : (places n : ℕ) → padded (suc places) n ≡ (48 + n / 10 ^ places % 10) ∷ padded places n
unfolding padded
padded-one places n = refl

-- where digits are left to write, with the next one behind what is written the text in all is the same
pub padded-step : (out first : List ℕ) (left n digit : ℕ) → 0 < left → digit ≡ 48 + n / 10 ^ (left - 1) % 10
    → out ++ padded left n ≡ first → (out ++ digit ∷ []) ++ padded (left - 1) n ≡ first
padded-step out first left n digit some d e =
    let k : suc (left - 1) ≡ left = omega arith in
    append_assoc out (digit ∷ []) _ ∙ rw d (rw (← padded-one (left - 1) n) (rw k e))

padded-zero : (out : List ℕ) (n : ℕ) → out ++ padded 0 n ≡ out
unfolding padded
padded-zero out n = append-nil out

-- where no digit is left to write, what is written is the text in all
pub padded-end : (out first : List ℕ) (left n : ℕ) → left ≡ 0 → out ++ padded left n ≡ first → out ≡ first
padded-end out first left n z e = sym (padded-zero out n) ∙ rw (← z) e

-- two digits at a time
pair-first : (m : ℕ) → m % 100 / 10 ≡ m / 10 % 10
pair-first m = omega arith

pair-second : (m : ℕ) → m % 100 % 10 ≡ m % 10
pair-second m = omega arith

padded-two : (k n : ℕ)
    → padded (suc (suc k)) n ≡ (48 + n / 10 ^ k % 100 / 10) ∷ (48 + n / 10 ^ k % 100 % 10) ∷ padded k n
padded-two k n =
    let e : n / 10 ^ suc k ≡ n / 10 ^ k / 10 = ap (λ (z : ℕ). n / z) (pow-suc 10 k) ∙ sym (div-div-eq-div-mul n (10 ^ k) 10) in
    padded-one (suc k) n ∙ rw (padded-one k n, e, pair-first, pair-second) refl

-- the last two digits
pub last_pair : (n : ℕ) → padded 2 n ≡ (48 + n % 100 / 10) ∷ (48 + n % 100 % 10) ∷ []
unfolding padded
last_pair n = let e : n / 10 ^ 0 ≡ n = omega arith in padded-two 0 n ∙ rw e refl

-- two digits more, where these are the last ones of a quotient
pub two_more : (k n m : ℕ) (pair : List ℕ) → m ≡ n / 10 ^ k → pair ≡ padded 2 m
    → padded (suc (suc k)) n ≡ slice_index_or pair 0 0 ∷ slice_index_or pair 1 0 ∷ padded k n
two_more k n m pair e f = padded-two k n ∙ rw (f, last_pair m, e) refl

pub no_digits : (n : ℕ) → padded 0 n ≡ []
unfolding padded
no_digits n = refl

-- the last digits of many are those of a few
padded_drop : (k places n : ℕ) → drop k (padded (places + k) n) ≡ padded places n
unfolding padded
padded_drop zero places n = let e : places + 0 ≡ places = omega arith in rw e refl
padded_drop (suc k) places n = let e : places + suc k ≡ suc (places + k) = omega arith in rw e (padded_drop k places n)

padded_length : (places n : ℕ) → length (padded places n) ≡ places
unfolding padded
padded_length zero n = refl
padded_length (suc places) n = ap suc (padded_length places n)

-- a point in the place of the digit before the last ones
pub point_before : (digits : List ℕ) (places n : ℕ) → places ≤ 9 → digits ≡ padded 10 n
    → take (10 - (9 - places)) (drop (9 - places) (set digits (9 - places) 46)) ≡ 46 ∷ padded places n
point_before digits places n h e =
    let k : places + (9 - places + 1) ≡ 10 = omega arith in
    let long : length digits ≡ 10 = rw e (padded_length 10 n) in
    let all : drop (9 - places) (set digits (9 - places) 46) ≡ 46 ∷ padded places n =
    drop-set digits (9 - places) 46 (omega (arith, long)) ∙ ap (λ (l : List ℕ). 46 ∷ l) (rw e (rw (← k) (padded_drop (9 - places + 1) places n))) in
    rw all (take_all (10 - (9 - places)) (46 ∷ padded places n) (omega (arith, padded_length places n)))

-- without places there is no point
pub pointed-whole : (places n : ℕ) → places ≡ 0 → pointed places n ≡ decimal (n / 10 ^ places)
unfolding pointed
pointed-whole places n e = rw e (append-nil _)

pub pointed-parts : (places n : ℕ) → 0 < places → pointed places n ≡ decimal (n / 10 ^ places) ++ (46 ∷ padded places n)
unfolding pointed
pointed-parts places n h =
    let e : suc (places - 1) ≡ places = omega arith in rw (← e) refl

-- what the code forms is the rounded number
pub rounded : (a : Rat) (n : ℤ) (d places u p : ℕ) → by_parts n d ≡ a → 0 < d → u ≡ unsigned_abs n → p ≡ 10 ^ places
    → with_sign a.num ((2 * (u * p) + d) / (2 * d)) ≡ round_of a places
unfolding round_of
rounded a n d places u p e h f g =
    let k : d - 1 + 1 ≡ d = omega arith in rw (← e, f, g) (rw k refl)

-- what the code writes is the number with its point
pub written_whole : (out after text : List ℕ) (number places p : ℕ) → places ≡ 0 → p ≡ 10 ^ places
    → text ≡ decimal (number / p) → after ≡ out ++ text → after ≡ out ++ pointed places number
written_whole out after text number places p z e f g = rw (g, f, e) (ap (λ (t : List ℕ). out ++ t) (sym (pointed-whole places number z)))

pub written_parts : (out after all text : List ℕ) (number places p : ℕ) → 0 < places → p ≡ 10 ^ places
    → text ≡ decimal (number / p) → after ≡ out ++ text → all ≡ after ++ (46 ∷ padded places number)
    → all ≡ out ++ pointed places number
written_parts out after all text number places p h e f g i =
    rw (i, g, f, e) (append_assoc out (decimal (number / 10 ^ places)) (46 ∷ padded places number)
    ∙ ap (λ (t : List ℕ). out ++ t) (sym (pointed-parts places number h)))

-- a point and then the digits
pub written_behind : (out dotted all : List ℕ) (places n : ℕ) → dotted ≡ out ++ (46 ∷ [])
    → all ≡ dotted ++ padded places n → all ≡ out ++ (46 ∷ padded places n)
written_behind out dotted all places n e f = rw (f, e) (append_assoc out (46 ∷ []) (padded places n))
