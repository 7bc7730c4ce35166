-- The shortest text that is read as a number.
use Rattle.std.proofs.Common.{◌≡◌, ℕ, zero, suc, ◌+◌, ◌-◌, ◌*◌, ◌/◌, ◌%◌, ◌^◌, ◌<◌, ◌≤◌, ◌==◌, List, [], ◌∷◌, ◌++◌}
use Rattle.std.proofs.Common.{take, drop, length, refl, sym, ap, ◌∙◌, subst, arith, true, Some, None}
use Rattle.std.proofs.Common.{Option, Ok, Result, ℤ, pos}
use Rattle.std.specs.Prelude.{position, decimal, unsigned_abs, nat_le, not}
use Rattle.std.specs.Char.{is_ascii_digit, digit_value}
use Rattle.std.specs.List.{list_all}
use Rattle.std.specs.Str.Parse.{digits_value_after, digits_value}
use Rattle.std.proofs.lemmas.Str.Parse.{digits_value_short}
use Rattle.std.proofs.lemmas.Fmt.{length-decimal-le}
use Rattle.std.proofs.lemmas.List.{length-take, length-drop}
use Rattle.std.proofs.lemmas.Bool.Decides.{leb_tells, eqb_tells}
use Rattle.std.proofs.lemmas.Nat.{div-mul-add, pow-add}
use Rattle.std.proofs.Math.Nat.{pow-suc, one-le-pow, mul-div-mul_right, div-mul_cancel, dvd-mul_left_of_dvd}
use Rattle.std.proofs.Math.Nat.{dvd-mul_right, dvd_of_mod-eq-zero, mod-eq-zero_of_dvd, eq_of_mul-eq-mul_right}
use Rattle.std.proofs.Math.Nat.{pow-le-pow_right}
use Rattle.std.specs.Int.{◌∣◌}
use Rattle.cga_fraction.specs.Gcd.{gcd}
use Rattle.cga_fraction.specs.Rat.{Rat, den}
use Rattle.cga_fraction.specs.Arithmetic.{reduced}
use Rattle.cga_fraction.specs.Decimals.{decimal_of, is_point, is_numeral, read_of, read_at, limited, value_of, IsLiteral, IsShortest}
use Rattle.cga_fraction.specs.Texts.{pointed, literal_text_of, least_places, places_from}
use Rattle.cga_fraction.specs.declared.fraction.decimal.DecimalFault.{DecimalFault}
use Rattle.cga_fraction.specs.declared.fraction.decimal.DecimalFault.TheVariants.{NotNumber, TooManyDigits}
use Rattle.cga_fraction.proofs.Gcds.{gcd-IsGcd}
use Rattle.cga_fraction.proofs.Lowest.{den-reduced}
use Rattle.cga_fraction.proofs.Ratios.{IsRatio, reduced_ratio}
use Rattle.cga_fraction.proofs.Digits.{after-append}
use Rattle.cga_fraction.proofs.Order.{by_parts}
use Rattle.cga_fraction.proofs.Places.{least_exact}
use Rattle.cga_fraction.proofs.Spelling.{own, both, reduced_like, reads-pointed, length-pointed}
use Rattle.cga_fraction.proofs.Results.{if_err-ok}

-- ---- what a text that is read as a number looks like

pub record Reads (text : List ℕ) (a : Rat) : Type 0 where
  pub whole : List ℕ
  pub places : List ℕ
  pub some : 0 < length whole
  pub digits : list_all is_ascii_digit whole ≡ true
  pub more : list_all is_ascii_digit places ≡ true
  pub few : length whole + length places ≤ 18
  pub value : a ≡ value_of whole places
  pub alone : length whole ≤ length text
  pub pointed : 0 < length places → length whole + length places + 1 ≤ length text

ok_same : (x a : Rat) → ◌≡◌ {A = Result Rat DecimalFault} (Ok x) (Ok a) → a ≡ x
ok_same x a h = cc

-- a numeral has a digit, and digits alone
pub numeral_parts : (ds : List ℕ) → is_numeral ds ≡ true → (0 < length ds) × (list_all is_ascii_digit ds ≡ true)
numeral_parts ds h =
    let b = both (not (length ds == 0)) (list_all is_ascii_digit ds) h in (grind (arith, eqb_tells (length ds) 0), b.1)

read_parts : (text whole places : List ℕ) (a : Rat) → list_all is_ascii_digit places ≡ true → length whole ≤ length text
    → (0 < length places → length whole + length places + 1 ≤ length text) → read_of whole places ≡ Ok a → Reads text a
read_parts text whole places a m l p h =
    let s = if_err-ok (is_numeral whole) (limited whole places) NotNumber a h in
    let n = numeral_parts whole s.0 in
    let t = if_err-ok (nat_le (length whole + length places) 18) (Ok (value_of whole places)) TooManyDigits a s.1 in
    record {
      whole = whole;
      places = places;
      some = n.0;
      digits = n.1;
      more = m;
      few = grind (arith, leb_tells (length whole + length places) 18);
      value = ok_same (value_of whole places) a t.1;
      alone = l;
      pointed = p;
    }

read_position : (text : List ℕ) (o : Option ℕ) (a : Rat) → read_at text o ≡ Ok a → Reads text a
read_position text None a h = read_parts text text [] a refl (omega arith) (λ k. absurd (omega arith)) h
read_position text (Some i) a h =
    let s = if_err-ok (is_numeral (drop (i + 1) text)) (read_of (take i text) (drop (i + 1) text)) NotNumber a h in
    let n = numeral_parts (drop (i + 1) text) s.0 in
    let d = length-drop (i + 1) text in
    let t = length-take i text in
    read_parts text (take i text) (drop (i + 1) text) a n.1 (omega arith) (λ k. omega arith) s.1

-- where a text is read as a number, at most 18 digits write it, which with their point are no longer than the text
pub reads : (text : List ℕ) (a : Rat) → decimal_of text ≡ Ok a → Reads text a
unfolding decimal_of
reads text a h = read_position text (position is_point text) a h

-- ---- the least places fit into every text that is read as the number

after_split : (v : ℕ) (ds : List ℕ) → digits_value_after 10 v ds ≡ v * 10 ^ length ds + digits_value 10 ds
after_split v [] = omega arith
after_split v (c ∷ cs) =
    let a = after_split (v * 10 + digit_value c) cs in
    let b = after_split (0 * 10 + digit_value c) cs in
    let p : 10 ^ suc (length cs) ≡ 10 ^ length cs * 10 = pow-suc 10 (length cs) in
    let q : v * 10 ^ suc (length cs) ≡ v * (10 ^ length cs * 10) = ap (λ z. v * z) p in
    omega (arith, a, b, q)

-- n digits with k places, and m of them with p, of one number t / d
same_number : (n k m p t d : ℕ) → 0 < d → t * 10 ^ k ≡ n * d → m * d ≡ t * 10 ^ p → p ≤ k
    → (m * 10 ^ k ≡ n * 10 ^ p) × (m / 10 ^ p ≡ n / 10 ^ k)
same_number n k m p t d h e f l =
    let j : p + (k - p) ≡ k = omega arith in
    let w : 10 ^ k ≡ 10 ^ p * 10 ^ (k - p) = ap (λ z. 10 ^ z) (sym j) ∙ pow-add 10 p (k - p) in
    let x : t * 10 ^ k ≡ t * (10 ^ p * 10 ^ (k - p)) = ap (λ z. t * z) w in
    let y : m * d * 10 ^ (k - p) ≡ t * 10 ^ p * 10 ^ (k - p) = ap (λ z. z * 10 ^ (k - p)) f in
    let z : n * d ≡ m * 10 ^ (k - p) * d = omega arith in
    let u : n ≡ m * 10 ^ (k - p) = eq_of_mul-eq-mul_right d h n (m * 10 ^ (k - p)) z in
    let v : m * 10 ^ k ≡ m * (10 ^ p * 10 ^ (k - p)) = ap (λ c. m * c) w in
    let r : n * 10 ^ p ≡ m * 10 ^ (k - p) * 10 ^ p = ap (λ c. c * 10 ^ p) u in
    let s : 0 < 10 ^ (k - p) = one-le-pow (k - p) 10 (omega arith) in
    (omega arith, sym (mul-div-mul_right m (10 ^ p) s) ∙ ap (λ c. m * 10 ^ (k - p) / c) (sym w) ∙ ap (λ c. c / 10 ^ k) (sym u))

divides_power : (n k : ℕ) → den (reduced (pos n) (10 ^ k)) ∣ 10 ^ k
divides_power n k =
    let h : 0 < 10 ^ k = one-le-pow k 10 (omega arith) in
    let g : 10 ^ k / gcd n (10 ^ k) * gcd n (10 ^ k) ≡ 10 ^ k = div-mul_cancel (gcd n (10 ^ k)) (gcd-IsGcd n (10 ^ k)).1 in
    subst (λ d. d ∣ 10 ^ k) (sym (den-reduced (pos n) (10 ^ k) h)) (subst (λ c. 10 ^ k / gcd n (10 ^ k) ∣ c) g (dvd-mul_right (10 ^ k / gcd n (10 ^ k)) (gcd n (10 ^ k))))

-- what a literal's digits and places are, beside those of a text that is read as the same number
pub record Fits (a : Rat) (whole places : List ℕ) : Type 0 where
  pub fewer : least_places a ≤ length places
  pub front : length (decimal (unsigned_abs a.num * 10 ^ least_places a / den a / 10 ^ least_places a)) ≤ length whole
  pub small : unsigned_abs a.num * 10 ^ least_places a / den a / 10 ^ least_places a < 2 ^ 64
  pub same : reduced (pos (unsigned_abs a.num * 10 ^ least_places a / den a)) (10 ^ least_places a) ≡ a

fits : (text : List ℕ) (a : Rat) (r : Reads text a) → Fits a r.whole r.places
fits text a r =
    let n : ℕ = digits_value 10 (r.whole ++ r.places) in
    let h : 0 < 10 ^ length r.places = one-le-pow (length r.places) 10 (omega arith) in
    let q : IsRatio a (digits_value 10 (r.whole ++ r.places))
    (10 ^ length r.places) = subst (λ b. IsRatio b (digits_value 10 (r.whole ++ r.places))
    (10 ^ length r.places)) (sym r.value) (reduced_ratio (digits_value 10 (r.whole ++ r.places)) (10 ^ length r.places) h) in
    let t : unsigned_abs a.num ≡ q.top = ap unsigned_abs q.is in
    let dv : den a ∣ 10 ^ length r.places = subst (λ b. den b ∣ 10 ^ length r.places) (sym r.value) (divides_power (digits_value 10 (r.whole ++ r.places)) (length r.places)) in
    let z : 10 ^ length r.places % den a ≡ 0 = mod-eq-zero_of_dvd (den a) dv in
    let l = least_exact (den a) (length r.places) (let s = r.some in let f = r.few in omega arith) z in
    let dp : den a ∣ 10 ^ least_places a = dvd_of_mod-eq-zero (den a) l.1 in
    let m : unsigned_abs a.num * 10 ^ least_places a / den a * den a ≡ unsigned_abs a.num * 10 ^ least_places a = div-mul_cancel (den a) (dvd-mul_left_of_dvd (den a) dp (unsigned_abs a.num)) in
    let e : unsigned_abs a.num * 10 ^ length r.places ≡ digits_value 10 (r.whole ++ r.places) * den a = ap (λ c. c * 10 ^ length r.places) t ∙ q.same in
    let s = same_number (digits_value 10 (r.whole ++ r.places)) (length r.places)
    (unsigned_abs a.num * 10 ^ least_places a / den a) (least_places a) (unsigned_abs a.num) (den a) (omega arith) e m l.0 in
    let parts : digits_value 10 (r.whole ++ r.places) ≡ digits_value 10 r.whole * 10 ^ length r.places +
    digits_value 10 r.places = after-append 0 r.whole r.places ∙ after_split (digits_value 10 r.whole) r.places in
    let below : digits_value 10 r.places < 10 ^ length r.places = digits_value_short own r.places (length r.places) r.more (omega arith) in
    let front : digits_value 10 (r.whole ++ r.places) / 10 ^ length r.places ≡ digits_value 10
    r.whole = ap (λ c. c / 10 ^ length r.places) parts ∙ div-mul-add (digits_value 10 r.whole) (10 ^ length r.places) (digits_value 10 r.places) below in
    let w : digits_value 10 r.whole < 10 ^ length r.whole = digits_value_short own r.whole (length r.whole) r.digits (omega arith) in
    let most : 10 ^ length r.whole ≤ 10 ^ 18 = pow-le-pow_right {n = 10} (omega arith) {i = length r.whole} {j = 18} (let f = r.few in omega arith) in
    let v : digits_value 10 r.whole < 2 ^ 64 = omega arith in
    let i : unsigned_abs a.num * 10 ^ least_places a / den a / 10 ^ least_places a ≡ digits_value 10 r.whole = s.1 ∙ front in
    record {
      fewer = l.0;
      front = rw i (length-decimal-le (length r.whole) (digits_value 10 r.whole) r.some w v);
      small = rw i v;
      same = reduced_like (unsigned_abs a.num * 10 ^ least_places a / den a) (10 ^ least_places a)
          (digits_value 10 (r.whole ++ r.places)) (10 ^ length r.places) (one-le-pow (least_places a) 10 (omega arith)) h s.0 ∙ sym r.value;
    }

literal_reads : (text : List ℕ) (a : Rat) (r : Reads text a) → decimal_of (literal_text_of a) ≡ Ok a
unfolding literal_text_of
literal_reads text a r =
    let f = fits text a r in
    let l = f.front in let k = f.fewer in let m = r.few in
    reads-pointed (least_places a) (unsigned_abs a.num * 10 ^ least_places a / den a) f.small (omega arith) ∙ ap (λ (b : Rat). Ok b) f.same

short : (p k d w n t : ℕ) → p ≤ k → d ≤ w → n ≤ d + p + 1 → (p ≡ 0 → n ≤ d) → w ≤ t → (0 < k → w + k + 1 ≤ t) → n ≤ t
short zero k d w n t a b c e f g = let x = e refl in omega arith
short (suc p) k d w n t a b c e f g = let x = g (omega arith) in omega arith

literal_short : (text : List ℕ) (a : Rat) (r : Reads text a) → length (literal_text_of a) ≤ length text
unfolding literal_text_of
literal_short text a r =
    let f = fits text a r in
    let l = length-pointed (least_places a) (unsigned_abs a.num * 10 ^ least_places a / den a) in
    short (least_places a) (length r.places)
    (length (decimal (unsigned_abs a.num * 10 ^ least_places a / den a / 10 ^ least_places a)))
    (length r.whole) _ (length text) f.fewer f.front l.0 l.1 r.alone r.pointed

-- where some text is read as a number, the literal text is, and no shorter one
pub literal_is_shortest : (a : Rat) → IsLiteral a → IsShortest a (literal_text_of a)
literal_is_shortest a l = record {
  reads = literal_reads l.0 a (reads l.0 a l.1);
  shortest = λ other h. literal_short other a (reads other a h);
}

-- what the code writes is that text
pub written : (a : Rat) (n : ℤ) (d p u ten : ℕ) → by_parts n d ≡ a → 0 < d → p ≡ places_from 17 0 d → u ≡ unsigned_abs n
    → ten ≡ 10 ^ p → pointed p (u * ten / d) ≡ literal_text_of a
unfolding literal_text_of
written a n d p u ten e h f g i =
    let k : d - 1 + 1 ≡ d = omega arith in rw (← e, g, i, f) (rw k refl)

pub written_shortest : (a : Rat) (text : List ℕ) → text ≡ literal_text_of a → IsLiteral a → IsShortest a text
written_shortest a text e l = rw e (literal_is_shortest a l)
