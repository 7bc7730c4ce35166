-- Texts with a point, read as the numbers that they show.
use Rattle.std.proofs.Common.{◌≡◌, ℕ, zero, suc, ◌+◌, ◌*◌, ◌/◌, ◌%◌, ◌^◌, ◌<◌, ◌≤◌, ◌==◌, List, [], ◌∷◌, ◌++◌}
use Rattle.std.proofs.Common.{drop, length, refl, sym, ap, ◌∙◌, arith, rules, true, false, Some, None, Ok, pos}
use Rattle.std.specs.Prelude.{position, decimal}
use Rattle.std.specs.Char.{is_ascii_digit, digit_value}
use Rattle.std.specs.List.{list_all, position_or_len}
use Rattle.std.specs.Str.Parse.{digits_value_after, digits_value}
use Rattle.std.proofs.lemmas.Str.Parse.{IsDigitsTest, IsNumeralModel, numerals_by_value}
use Rattle.std.proofs.lemmas.Fmt.{digits_decimal, digits_value-decimal}
use Rattle.std.proofs.lemmas.List.{length-append, append-nil}
use Rattle.std.proofs.lemmas.Bool.Decides.{eqb_tells, nat_tests}
use Rattle.std.proofs.lemmas.Nat.{mod-mul-add}
use Rattle.std.proofs.Math.Nat.{pow-suc, one-le-pow, mul-le-mul_right}
use Rattle.std.proofs.Math.Seq.{take-append_seam}
use Rattle.cga_fraction.specs.Arithmetic.{reduced}
use Rattle.cga_fraction.specs.Decimals.{decimal_of, is_point, is_numeral}
use Rattle.cga_fraction.specs.Texts.{padded, pointed, after_point}
use Rattle.cga_fraction.proofs.Diffs.{reduced_diff}
use Rattle.cga_fraction.proofs.Laws.{same_diff, reduced_lowest}
use Rattle.cga_fraction.proofs.Digits.{after-append}
pub use Rattle.std.proofs.lemmas.Bool.{and_parts as both}
use Rattle.std.proofs.lemmas.Fmt.{decimal_nonempty as length_decimal_some}
use Rattle.cga_fraction.proofs.Facts.{nat_le_18 as few_digits, nat_lt-same as not_below, nat_lt_from_lt as below_it}
use Rattle.cga_fraction.proofs.Texts.{padded-one}

-- ---- digits

tells : IsDigitsTest (λ ds. list_all is_ascii_digit ds ≡ true)
tells = search rules

-- texts of digits with their decimal value are numerals as the standard library knows them
pub own : IsNumeralModel (λ ds. list_all is_ascii_digit ds ≡ true) (digits_value 10)
own = numerals_by_value (λ ds. list_all is_ascii_digit ds ≡ true) tells

padded-nil : (n : ℕ) → padded 0 n ≡ []
unfolding padded
padded-nil n = refl

length-padded : (places n : ℕ) → length (padded places n) ≡ places
length-padded zero n = rw (padded-nil n) refl
length-padded (suc places) n = rw (padded-one places n) (ap suc (length-padded places n))

a_digit : (k : ℕ) → k < 10 → is_ascii_digit (48 + k) ≡ true
a_digit k h = grind (arith, nat_tests)

digits-padded : (places n : ℕ) → list_all is_ascii_digit (padded places n) ≡ true
digits-padded zero n = rw (padded-nil n) refl
digits-padded (suc places) n =
    let d : n / 10 ^ places % 10 < 10 = omega arith in
    rw (padded-one places n) (rw (a_digit (n / 10 ^ places % 10) d) (digits-padded places n))

value_of_digit : (k : ℕ) → k < 10 → digit_value (48 + k) ≡ k
value_of_digit k h = grind (arith, nat_tests)

tail_mod : (n p : ℕ) → 0 < p → n / p % 10 * p + n % p ≡ n % (p * 10)
tail_mod n p h =
    let r : n % p < p = omega arith in
    let c : n / p % 10 < 10 = omega arith in
    let a : p * (n / p) + n % p ≡ n = omega arith in
    let b : 10 * (n / p / 10) + n / p % 10 ≡ n / p = omega arith in
    let s : n / p % 10 * p ≤ 9 * p = mul-le-mul_right p (omega arith) in
    let b' : (10 * (n / p / 10) + n / p % 10) * p ≡ n / p * p = ap (λ z. z * p) b in
    let e : n / p / 10 * (p * 10) + (n / p % 10 * p + n % p) ≡ n = omega arith in
    sym (mod-mul-add (n / p / 10) (p * 10) (n / p % 10 * p + n % p) (omega arith)) ∙ ap (λ z. z % (p * 10)) e

-- the value of the last digits of n behind the digits of v
value-padded : (places n v : ℕ) → digits_value_after 10 v (padded places n) ≡ v * 10 ^ places + n % 10 ^ places
value-padded zero n v = rw (padded-nil n) (omega arith)
value-padded (suc places) n v =
    let d : n / 10 ^ places % 10 < 10 = omega arith in
    let p : 0 < 10 ^ places = one-le-pow places 10 (omega arith) in
    let t = tail_mod n (10 ^ places) p in
    rw (padded-one places n)
    (ap (λ (k : ℕ). digits_value_after 10 (v * 10 + k) (padded places n)) (value_of_digit (n / 10 ^ places % 10) d)
    ∙ value-padded places n (v * 10 + n / 10 ^ places % 10) ∙ rw (pow-suc 10 places) (omega (arith, t)))

-- ---- points

no_point : (c : ℕ) → is_ascii_digit c ≡ true → is_point c ≡ false
no_point c e = grind (arith, nat_tests)

-- digits hold no point
length_before : (ds rest : List ℕ) → list_all is_ascii_digit ds ≡ true
    → position_or_len is_point (ds ++ 46 ∷ rest) ≡ length ds
length_before [] rest e = refl
length_before (c ∷ cs) rest e =
    let b = both (is_ascii_digit c) (list_all is_ascii_digit cs) e in
    rw (no_point c b.0) (omega (arith, length_before cs rest b.1))

length_alone : (ds : List ℕ) → list_all is_ascii_digit ds ≡ true → position_or_len is_point ds ≡ length ds
length_alone [] e = refl
length_alone (c ∷ cs) e =
    let b = both (is_ascii_digit c) (list_all is_ascii_digit cs) e in
    rw (no_point c b.0) (omega (arith, length_alone cs b.1))

position_between : (ds rest : List ℕ) → list_all is_ascii_digit ds ≡ true
    → position is_point (ds ++ 46 ∷ rest) ≡ Some (length ds)
position_between ds rest e =
    let p = length_before ds rest e in
    let l : length ds < length (ds ++ 46 ∷ rest) = omega (arith, length-append ds (46 ∷ rest)) in
    rw (p, below_it (length ds) (length (ds ++ 46 ∷ rest)) l) refl

position_alone : (ds : List ℕ) → list_all is_ascii_digit ds ≡ true → position is_point ds ≡ None
position_alone ds e = rw (length_alone ds e, not_below (length ds)) refl

drop_seam : (ds rest : List ℕ) → drop (length ds + 1) (ds ++ 46 ∷ rest) ≡ rest
drop_seam [] rest = refl
drop_seam (c ∷ cs) rest = let e : length (c ∷ cs) + 1 ≡ suc (length cs + 1) = omega arith in rw e (drop_seam cs rest)

-- ---- reading what is written

numeral : (ds : List ℕ) → 0 < length ds → list_all is_ascii_digit ds ≡ true → is_numeral ds ≡ true
numeral ds h e =
    let z : (length ds == 0) ≡ false = grind (arith, eqb_tells (length ds) 0) in rw (z, e) refl

-- where a text is digits, from 1 to 18, it is read as the whole number that they write
pub reads_whole : (ds : List ℕ) → 0 < length ds → list_all is_ascii_digit ds ≡ true → length ds ≤ 18
    → decimal_of ds ≡ Ok (reduced (pos (digits_value 10 ds)) 1)
unfolding decimal_of
reads_whole ds h e few =
    let k : length ds + 0 ≤ 18 = omega arith in
    rw (position_alone ds e, numeral ds h e, few_digits (length ds + 0) k, append-nil ds) refl

-- where digits stand before and after a point, at most 18, they are read as what they write with so many places
pub reads_parts : (ds ps : List ℕ) → 0 < length ds → list_all is_ascii_digit ds ≡ true → 0 < length ps
    → list_all is_ascii_digit ps ≡ true → length ds + length ps ≤ 18
    → decimal_of (ds ++ 46 ∷ ps) ≡ Ok (reduced (pos (digits_value 10 (ds ++ ps))) (10 ^ length ps))
unfolding decimal_of
reads_parts ds ps h e k f few =
    rw (position_between ds ps e, drop_seam ds ps, take-append_seam ds (46 ∷ ps), numeral ps k f, numeral ds h e, few_digits (length ds + length ps) few) refl

-- ---- the text with a point is read as the number that it shows

pub reduced_like : (n d m e : ℕ) → 0 < d → 0 < e → n * e ≡ m * d → reduced (pos n) d ≡ reduced (pos m) e
reduced_like n d m e h k l =
    same_diff (reduced (pos n) d) (reduced (pos m) e) n 0 d m 0 e (reduced_lowest (pos n) d h) (reduced_lowest (pos m) e k) (reduced_diff (pos n) d h) (reduced_diff (pos m) e k) (omega arith)

reads_at : (places n : ℕ) → n / 10 ^ places < 2 ^ 64 → length (decimal (n / 10 ^ places)) + places ≤ 18
    → decimal_of (decimal (n / 10 ^ places) ++ after_point places n) ≡ Ok (reduced (pos n) (10 ^ places))
reads_at zero n h few =
    let i : n / 10 ^ 0 ≡ n = omega arith in
    let v : digits_value 10 (decimal (n / 10 ^ 0)) ≡ n / 10 ^ 0 = digits_value-decimal own (n / 10 ^ 0) h in
    rw (append-nil (decimal (n / 10 ^ 0))) (reads_whole (decimal (n / 10 ^ 0)) (length_decimal_some (n / 10 ^ 0) h)
    (digits_decimal own (n / 10 ^ 0) h) (omega arith) ∙ ap (λ (k : ℕ). Ok (reduced (pos k) 1)) (v ∙ i))
reads_at (suc places) n h few =
    let w : ℕ = n / 10 ^ suc places in
    let l = length-padded (suc places) n in
    let p : 0 < 10 ^ suc places = one-le-pow (suc places) 10 (omega arith) in
    let v : digits_value 10 (decimal (n / 10 ^ suc places)) ≡ n / 10 ^ suc places = digits_value-decimal own (n / 10 ^ suc places) h in
    let m : 10 ^ suc places * (n / 10 ^ suc places) + n % 10 ^ suc places ≡ n = omega arith in
    let t : digits_value 10 (decimal (n / 10 ^ suc places) ++ padded (suc places) n) ≡ n = after-append 0
    (decimal (n / 10 ^ suc places)) (padded (suc places) n) ∙ value-padded (suc places) n _ ∙ rw v (omega arith) in
    reads_parts (decimal (n / 10 ^ suc places)) (padded (suc places) n)
    (length_decimal_some (n / 10 ^ suc places) h) (digits_decimal own (n / 10 ^ suc places) h) (omega arith) (digits-padded (suc places) n) (omega arith)
    ∙ ap (λ (k : ℕ). Ok (reduced (pos k) (10 ^ length (padded (suc places) n)))) t ∙ ap (λ (k : ℕ). Ok (reduced (pos n) (10 ^ k))) l

-- where a number is written with some places in at most 18 digits, its whole part in 64 bits, the text is read as it
pub reads-pointed : (places n : ℕ) → n / 10 ^ places < 2 ^ 64 → length (decimal (n / 10 ^ places)) + places ≤ 18
    → decimal_of (pointed places n) ≡ Ok (reduced (pos n) (10 ^ places))
unfolding pointed
reads-pointed places n h few = reads_at places n h few

length_at : (places n : ℕ)
    → (length (decimal (n / 10 ^ places) ++ after_point places n) ≤ length (decimal (n / 10 ^ places)) + places + 1)
    × (places ≡ 0 → length (decimal (n / 10 ^ places) ++ after_point places n) ≤ length (decimal (n / 10 ^ places)))
length_at zero n = let l = length-append (decimal (n / 10 ^ 0)) [] in (omega arith, λ z. omega arith)
length_at (suc places) n =
    let l = length-append (decimal (n / 10 ^ suc places)) (after_point (suc places) n) in
    let k = length-padded (suc places) n in
    (omega arith, λ z. absurd (omega arith))

pub length-pointed : (places n : ℕ)
    → (length (pointed places n) ≤ length (decimal (n / 10 ^ places)) + places + 1)
    × (places ≡ 0 → length (pointed places n) ≤ length (decimal (n / 10 ^ places)))
unfolding pointed
length-pointed places n = length_at places n
