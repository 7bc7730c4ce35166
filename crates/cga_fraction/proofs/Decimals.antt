-- Decimal texts as the code reads them.
use Rattle.std.proofs.Common.{◌≡◌, ℕ, ◌+◌, ◌^◌, ◌≤◌, List, ◌++◌, take, drop, length, refl, sym, ap, ◌∙◌, true, false, Some, Ok, Err, Result, pos}
use Rattle.std.specs.Prelude.{position}
use Rattle.std.specs.Str.Parse.{digits_value_after}
use Rattle.cga_fraction.specs.Rat.{Rat}
use Rattle.cga_fraction.specs.Arithmetic.{reduced}
use Rattle.cga_fraction.specs.Decimals.{decimal_of, is_point, is_numeral, read_of}
use Rattle.cga_fraction.specs.declared.fraction.decimal.DecimalFault.{DecimalFault}
use Rattle.cga_fraction.specs.declared.fraction.decimal.DecimalFault.TheVariants.{NotNumber}
use Rattle.cga_fraction.proofs.Digits.{after-append}
use Rattle.cga_fraction.proofs.Facts.{nat_le_18 as within_limit}

pub not_digits : (text places : List ℕ) (i : ℕ) → position is_point text ≡ Some i → places ≡ drop (i + 1) text
    → is_numeral places ≡ false → ◌≡◌ {A = Result Rat DecimalFault} (Err NotNumber) (decimal_of text)
unfolding decimal_of
not_digits text places i p e n = rw (p, ← e, n) refl

pub two_sides : (text whole places : List ℕ) (i : ℕ) (r : Result Rat DecimalFault) → position is_point text ≡ Some i
    → whole ≡ take i text → places ≡ drop (i + 1) text → is_numeral places ≡ true → r ≡ read_of whole places
    → r ≡ decimal_of text
unfolding decimal_of
two_sides text whole places i r p e f n g = rw (g, p, ← e, ← f, n) refl

pub read_is : (whole places : List ℕ) (v w p : ℕ) (r : Rat) → is_numeral whole ≡ true
    → length whole + length places ≤ 18 → v ≡ digits_value_after 10 0 whole → w ≡ digits_value_after 10 v places
    → p ≡ 10 ^ length places → r ≡ reduced (pos w) p
    → ◌≡◌ {A = Result Rat DecimalFault} (Ok r) (read_of whole places)
read_is whole places v w p r n few a b e f =
    let s : w ≡ digits_value_after 10 0 (whole ++ places) = b ∙ ap (λ (k : ℕ). digits_value_after 10 k places) a ∙ sym (after-append 0 whole places) in
    let q : r ≡ reduced (pos (digits_value_after 10 0 (whole ++ places))) (10 ^ length places) = f
    ∙ ap (λ (k : ℕ). reduced (pos k) p) s ∙ ap (λ (k : ℕ). reduced (pos (digits_value_after 10 0 (whole ++ places))) k) e in
    rw (n, within_limit (length whole + length places) few, q) refl
