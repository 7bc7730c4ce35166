-- The numbers of plain words, one by one.
use Rattle.std.proofs.Common.{◌≡◌, ◌∙◌, ap, refl, ℕ, zero, suc, ◌<◌, ◌≤◌, inl, inr, Bool, not, ◌&&◌, arith, true, false, [], ◌∷◌}
use Rattle.std.specs.Prelude.{pos, nat_eq}
use Rattle.std.proofs.lemmas.Bool.Decides.{nat_tests}
use Rattle.std.specs.Fmt.{decimal, digits}
use Rattle.std.specs.Str.Parse.{digits_value, without_leading_plus}
use Rattle.clap.specs.Words.{Text}
use Rattle.clap.specs.ValueTests.{accepts}
use Rattle.clap.specs.declared.builder.value_parser.ValueParser.TheVariants as parser
use Rattle.std.proofs.lemmas.Bool.{and_parts as both_true}
use Rattle.cga_fraction.proofs.Door.{eq_or_ne as same_or_other, false_from_not as not_true}

-- a text that doesn't begin with a minus, is in the option's range, and is read as the number
abbrev pub writes : ℕ → ℕ → ℕ → ℕ → Text → Bool
writes low high most n [] = false
writes low high most n (b ∷ rest) =
    not (nat_eq b 45) && (accepts false (parser.Signed (pos low) (pos high)) (b ∷ rest)
    && (accepts false (parser.Unsigned 0 most) (b ∷ rest) && nat_eq (digits_value 10 (without_leading_plus (b ∷ rest))) n))

-- the same as facts
pub record Writes (low high most n : ℕ) (b : ℕ) (rest : Text) : Type 0 where
  pub no_minus : nat_eq b 45 ≡ false
  pub in_range : accepts false (parser.Signed (pos low) (pos high)) (b ∷ rest) ≡ true
  pub in_type : accepts false (parser.Unsigned 0 most) (b ∷ rest) ≡ true
  pub value : digits_value 10 (without_leading_plus (b ∷ rest)) ≡ n

all_below : ℕ → (ℕ → Bool) → Bool
all_below zero p = true
all_below (suc n) p = p n && all_below n p

decimals_write : all_below 10 (λ k. writes 0 9 255 k (decimal k)) ≡ true
unfolding all_below digits
decimals_write = refl

towns_write : all_below 200 (λ k. writes 1 200 4294967295 (suc k) (decimal (suc k))) ≡ true
unfolding all_below digits
towns_write = refl

each_below : (n : ℕ) (p : ℕ → Bool) → all_below n p ≡ true → (k : ℕ) → k < n → p k ≡ true
unfolding all_below
each_below zero p e k lt = absurd (omega arith)
each_below (suc n) p e k lt =
    let both = both_true (p n) (all_below n p) e in
    elim (same_or_other k n) [ inl same ↦ ap p same ∙ both.0 | inr other ↦ each_below n p both.1 k (omega (arith, lt, other)) ]

pub written : (low high most n b : ℕ) (rest : Text) → writes low high most n (b ∷ rest) ≡ true
    → Writes low high most n b rest
written low high most n b rest e =
    let first = both_true (not (nat_eq b 45)) _ e in
    let second = both_true (accepts false (parser.Signed (pos low) (pos high)) (b ∷ rest)) _ first.1 in
    let third = both_true (accepts false (parser.Unsigned 0 most) (b ∷ rest)) _ second.1 in
    let same : nat_eq (digits_value 10 (without_leading_plus (b ∷ rest))) n ≡ true = third.1 in
    record { no_minus = not_true (nat_eq b 45) first.0; in_range = second.0; in_type = third.0; value = grind (arith, nat_tests) }

pub decimals_written : (n : ℕ) → n ≤ 9 → writes 0 9 255 n (decimal n) ≡ true
decimals_written n few = each_below 10 (λ k. writes 0 9 255 k (decimal k)) decimals_write n (omega arith)

pub town_written : (n : ℕ) → 1 ≤ n → n ≤ 200 → writes 1 200 4294967295 n (decimal n) ≡ true
town_written zero some few = absurd (omega arith)
town_written (suc k) some few = each_below 200 (λ i. writes 1 200 4294967295 (suc i) (decimal (suc i))) towns_write k (omega arith)
