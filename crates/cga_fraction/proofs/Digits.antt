-- Numbers that digits write.
use Rattle.std.proofs.Common.{◌≡◌, ℕ, zero, suc, ◌+◌, ◌-◌, ◌*◌, ◌^◌, ◌<◌, ◌≤◌, List, [], ◌∷◌, ◌++◌, take, length, get_or, refl, ap, arith, true}
use Rattle.std.specs.Char.{is_ascii_digit, digit_value}
use Rattle.std.specs.List.{list_all}
use Rattle.std.specs.Str.Parse.{digits_value_after}
use Rattle.std.proofs.lemmas.List.{take_more}
use Rattle.std.proofs.lemmas.Bool.Decides.{nat_tests}
use Rattle.std.proofs.Math.Nat.{pow-suc, pow-le-pow_right, mul-le-mul_right, one-le-pow}
use Rattle.std.proofs.lemmas.Nat.{pow-add}
use Rattle.std.proofs.lemmas.Bool.{and_parts as both}

-- a digit is one of the bytes from 48 to 57, and its value is what it has above 48
pub digit_range : (c : ℕ) → is_ascii_digit c ≡ true → (48 ≤ c) × (c ≤ 57) × (digit_value c ≡ c - 48)
digit_range c e = (grind (arith, nat_tests), grind (arith, nat_tests), grind (arith, nat_tests))

-- where all bytes of a text are digits, the byte at each index in it is
pub digit_at : (ds : List ℕ) (i : ℕ) → list_all is_ascii_digit ds ≡ true → i < length ds
    → is_ascii_digit (get_or ds i 0) ≡ true
digit_at [] i e h = absurd (omega arith)
digit_at (c ∷ cs) zero e h = (both (is_ascii_digit c) (list_all is_ascii_digit cs) e).0
digit_at (c ∷ cs) (suc i) e h = digit_at cs i (both (is_ascii_digit c) (list_all is_ascii_digit cs) e).1 (omega arith)

pub after-append : (n : ℕ) (xs ys : List ℕ)
    → digits_value_after 10 n (xs ++ ys) ≡ digits_value_after 10 (digits_value_after 10 n xs) ys
after-append n [] ys = refl
after-append n (c ∷ cs) ys = after-append (n * 10 + digit_value c) cs ys

-- one digit more
pub after-more : (n : ℕ) (ds : List ℕ) (i : ℕ) → i < length ds
    → digits_value_after 10 n (take (i + 1) ds) ≡ digits_value_after 10 n (take i ds) * 10 + digit_value (get_or ds i 0)
after-more n ds i h = rw (take_more ds i 0 h) (after-append n (take i ds) (get_or ds i 0 ∷ []))

pub next_small : (v d n i most : ℕ) → i < n → d ≤ 9 → (v + 1) * 10 ^ (n - i) ≤ most
    → (v * 10 + d + 1) * 10 ^ (n - (i + 1)) ≤ most
next_small v d n i most h k l =
    let e : n - i ≡ suc (n - (i + 1)) = omega arith in
    let p : 10 ^ (n - i) ≡ 10 ^ (n - (i + 1)) * 10 = rw e (pow-suc 10 (n - (i + 1))) in
    let q : (v + 1) * 10 ^ (n - i) ≡ (v + 1) * (10 ^ (n - (i + 1)) * 10) = ap (λ z. (v + 1) * z) p in
    let r : (v * 10 + d + 1) * 10 ^ (n - (i + 1)) ≤ ((v + 1) * 10) * 10 ^ (n - (i + 1)) = mul-le-mul_right (10 ^ (n - (i + 1))) (omega arith) in
    omega arith

pub now_small : (v k most : ℕ) → (v + 1) * 10 ^ k ≤ most → v + 1 ≤ most
now_small v k most h =
    let p : 1 * (v + 1) ≤ 10 ^ k * (v + 1) = mul-le-mul_right (v + 1) (one-le-pow k 10 (omega arith)) in omega arith

-- before a digit more there is room for it
pub room : (v n i most : ℕ) → i < n → (v + 1) * 10 ^ (n - i) ≤ most → (v + 1) * 10 ≤ most
room v n i most h l =
    let a : (v * 10 + 9 + 1) * 10 ^ (n - (i + 1)) ≤ most = next_small v 9 n i most h (omega arith) l in
    let b : v * 10 + 9 + 1 ≤ most = now_small (v * 10 + 9) (n - (i + 1)) most a in omega arith

-- so many digits on two sides are together a number that is small
pub together_small : (a b : ℕ) → a + b ≤ 18 → 10 ^ a * 10 ^ b ≤ 10 ^ 18
together_small a b h = rw (← pow-add 10 a b) (pow-le-pow_right {n = 10} (omega arith) {i = a + b} {j = 18} h)

pub side_small : (a : ℕ) → a ≤ 18 → 1 * 10 ^ a ≤ 10 ^ 18
side_small a h = let k : 10 ^ a ≤ 10 ^ 18 = pow-le-pow_right {n = 10} (omega arith) {i = a} {j = 18} h in omega arith

pub second_small : (v a b : ℕ) → a + b ≤ 18 → v + 1 ≤ 1 * 10 ^ a → (v + 1) * 10 ^ b ≤ 10 ^ 18
second_small v a b h k =
    let t : 10 ^ a * 10 ^ b ≤ 10 ^ 18 = together_small a b h in
    let m : (v + 1) * 10 ^ b ≤ 1 * 10 ^ a * 10 ^ b = mul-le-mul_right (10 ^ b) k in
    omega arith
