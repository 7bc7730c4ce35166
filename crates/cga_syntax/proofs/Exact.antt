-- The value of an attribute, as it is printed.
use Rattle.std.proofs.Common.{◌≡◌, ℕ, zero, suc, ◌+◌, ◌-◌, ◌*◌, ◌/◌, ◌<◌, ◌≤◌, ◌^◌, true, List, ◌++◌, length, length-append, map, Ok, pos, arith, ap, sym, ◌∙◌, refl, subst, inl, inr, ◌⊎◌}
use Rattle.std.specs.Prelude.{decimal, unsigned_abs, neg_ℤ}
use Rattle.std.specs.Char.{is_ascii_digit}
use Rattle.std.specs.List.{list_all}
use Rattle.std.specs.Str.Parse.{digits_value}
use Rattle.std.proofs.lemmas.Str.Parse.{digits_value_short}
use Rattle.std.proofs.lemmas.Fmt.{length-decimal-le}
use Rattle.std.proofs.lemmas.List.Folds.{list_all-append}
use Rattle.std.proofs.Math.Nat.{div-le_self, one-le-pow, pow-le-pow_right}
use Rattle.cga_fraction.specs.Gcd.{gcd}
use Rattle.cga_fraction.specs.Rat.{Rat, den, of_int}
use Rattle.cga_fraction.specs.Arithmetic.{reduced, times, divided, negated}
use Rattle.cga_fraction.specs.Decimals.{IsLiteral}
use Rattle.cga_fraction.specs.Texts.{pointed}
use Rattle.cga_fraction.proofs.Door.{gcd-IsGcd, lowest, own, quotient_positive, reads, reads-pointed, reduced-parts}
use Rattle.cga_syntax.specs.Pieces.{IsMagnitude, IsValue}
use Rattle.cga_syntax.specs.Printing.{magnitude, exactly}
use Rattle.cga_syntax.specs.Reading.{AreTokens}
use Rattle.cga_syntax.specs.declared.lexeme.Lexeme.{Lexeme}
use Rattle.cga_syntax.specs.declared.print.mark.Mark.{Mark}
use Rattle.cga_syntax.proofs.Wholes.{whole_reduced}

-- top over below + 1, in lowest terms, both of at most 18 digits
pub record IsSmall (a : Rat) : Type 0 where
  pub top : ℕ
  pub num : a.num ≡ pos top
  pub few : top < 10 ^ 18
  pub below : den a < 10 ^ 18
  pub lowest : gcd top (den a) ≡ 1

-- what is brought to lowest terms is small where it was
small_reduced : (n d : ℕ) → 0 < d → n < 10 ^ 18 → d < 10 ^ 18 → IsSmall (reduced (pos n) d)
small_reduced n d p f g =
    let k : ℕ = gcd n d in
    let e : reduced (pos n) d ≡ record { num = pos (n / gcd n d); above = d / gcd n d - 1 } = reduced-parts (pos n) d (gcd n d) refl in
    let q : 0 < d / gcd n d = quotient_positive d (gcd n d) (gcd-IsGcd n d).1 p in
    let z : d / gcd n d - 1 + 1 ≡ d / gcd n d = omega arith in
    subst IsSmall (sym e) (record {
      top = n / gcd n d;
      num = refl;
      few = omega (arith, div-le_self n (gcd n d));
      below = omega (arith, div-le_self d (gcd n d));
      lowest = ap (gcd (n / gcd n d)) z ∙ lowest n d p;
    })

-- a number that some text is read as
literal_small : (a : Rat) → IsLiteral a → IsSmall a
literal_small a h =
    let r = reads h.0 a h.1 in
    let all : list_all is_ascii_digit (r.whole ++ r.places) ≡ true = rw (list_all-append is_ascii_digit r.whole r.places, r.digits, r.more) refl in
    let n : digits_value 10 (r.whole ++ r.places) < 10 ^ 18 = digits_value_short own (r.whole ++ r.places) 18 all (omega (arith, length-append r.whole r.places, r.few)) in
    let p : 0 < 10 ^ length r.places = one-le-pow (length r.places) 10 (omega arith) in
    let m : 10 ^ length r.places ≤ 10 ^ 17 = pow-le-pow_right {n = 10} (omega arith) {i = length r.places} {j = 17} (omega (arith, r.few, r.some)) in
    subst IsSmall (sym r.value) (small_reduced (digits_value 10 (r.whole ++ r.places)) (10 ^ length r.places) p n (omega arith))

-- a whole number of at most 18 digits is read from its digits
pub whole_literal : (n : ℕ) → n < 10 ^ 18 → IsLiteral (of_int (pos n))
whole_literal n h =
    let q : n / 10 ^ 0 ≡ n = omega arith in
    let l : length (decimal (n / 10 ^ 0)) ≤ 18 = length-decimal-le 18 (n / 10 ^ 0) (omega arith) (omega arith) (omega arith) in
    (pointed 0 n, reads-pointed 0 n (omega arith) (omega arith) ∙ ap Ok (whole_reduced n))

-- a whole number that some text is read as is below 10 to the 18
pub whole_small : (n : ℕ) → IsLiteral (of_int (pos n)) → n < 10 ^ 18
whole_small n h =
    let s = literal_small (of_int (pos n)) h in
    let e : n ≡ s.top = ap unsigned_abs s.num in
    let f = s.few in omega arith

divided_is : (n d : ℕ) → 0 < d → divided (of_int (pos n)) (of_int (pos d)) ≡ reduced (pos n) d
unfolding divided times
divided_is n zero h = absurd (omega arith)
divided_is n (suc d) h =
    let a : n * 1 ≡ n = omega arith in
    let b : 1 * (d + 1) ≡ suc d = omega arith in
    ap (λ z. reduced (pos z) (1 * (d + 1))) a ∙ ap (λ z. reduced (pos n) z) b

-- a magnitude that is written with the tokens of a line
magnitude_small : (m : Rat) (text : List Lexeme) → AreTokens text → IsMagnitude m text → IsSmall m
magnitude_small m text t (inl e) = literal_small m (subst AreTokens e t).0
magnitude_small m text t (inr h) =
    let u = subst AreTokens h.2 t in
    subst IsSmall (sym (h.4 ∙ divided_is h.0 h.1 h.3)) (small_reduced h.0 h.1 h.3 (whole_small h.0 u.0) (whole_small h.1 u.1.1.0))

abbrev lexemes : List Mark → List Lexeme
lexemes ms = map (λ m. m.lexeme) ms

magnitude_tokens : (n above : ℕ) → n < 10 ^ 18 → above + 1 < 10 ^ 18 → AreTokens (lexemes (magnitude n above))
magnitude_tokens n zero f g = (whole_literal n f, tt)
magnitude_tokens n (suc above) f g = (whole_literal n f, (tt, (whole_literal (suc above + 1) g, tt)))

quotient_is : (n d : ℕ) → 0 < d → gcd n d ≡ 1
    → divided (of_int (pos n)) (of_int (pos d)) ≡ record { num = pos n; above = d - 1 }
quotient_is n d h e =
    let a : n / 1 ≡ n = omega arith in
    let b : d / 1 ≡ d = omega arith in
    divided_is n d h ∙ reduced-parts (pos n) d 1 (sym e) ∙ ap (λ z. record { num = pos z; above = d / 1 - 1 }) a ∙ ap (λ z. record { num = pos n; above = z - 1 }) b

magnitude_written : (n above : ℕ) → gcd n (above + 1) ≡ 1
    → IsMagnitude (record { num = pos n; above = above }) (lexemes (magnitude n above))
magnitude_written n zero e = inl refl
magnitude_written n (suc above) e =
    let z : suc above ≡ suc above + 1 - 1 = omega arith in
    inr (n, suc above + 1, refl, omega arith, ap (λ y. record { num = pos n; above = y }) z ∙ sym (quotient_is n (suc above + 1) (omega arith) e))

-- a value is written as it is printed, with tokens that a line can have
pub record Exactly (v : Rat) : Type 0 where
  pub tokens : AreTokens (lexemes (exactly v.num v.above))
  pub written : IsValue v (lexemes (exactly v.num v.above))

positive : (n above : ℕ) → n < 10 ^ 18 → above + 1 < 10 ^ 18 → gcd n (above + 1) ≡ 1
    → Exactly (record { num = pos n; above = above })
positive n above f g e = record { tokens = magnitude_tokens n above f g; written = inl (magnitude_written n above e) }

negative : (n above : ℕ) → n < 10 ^ 18 → above + 1 < 10 ^ 18 → gcd n (above + 1) ≡ 1
    → Exactly (record { num = neg_ℤ (pos n); above = above })
negative zero above f g e = positive zero above f g e
negative (suc n) above f g e = record {
  tokens = (tt, magnitude_tokens (suc n) above f g);
  written = inr (record { num = pos (suc n); above = above }, lexemes (magnitude (suc n) above), refl, magnitude_written (suc n) above e, refl);
}

as_parts : (m : Rat) (n : ℕ) → m.num ≡ pos n → ◌≡◌ {A = Rat} m (record { num = pos n; above = m.above })
as_parts m n e = ap (λ z. record { num = z; above = m.above }) e

value_exact : (v m : Rat) → IsSmall m → (v ≡ m) ⊎ (v ≡ negated m) → Exactly v
value_exact v m s (inl e) = subst Exactly (sym (e ∙ as_parts m s.top s.num)) (positive s.top m.above s.few s.below s.lowest)
value_exact v m s (inr e) = subst Exactly (sym (e ∙ ap negated (as_parts m s.top s.num))) (negative s.top m.above s.few s.below s.lowest)

pub exact : (v : Rat) (text : List Lexeme) → AreTokens text → IsValue v text → Exactly v
exact v text t (inl h) = value_exact v v (magnitude_small v text t h) (inl refl)
exact v text t (inr h) = value_exact v h.0 (magnitude_small h.0 h.1 (subst AreTokens h.2 t).1 h.3) (inr h.4)
