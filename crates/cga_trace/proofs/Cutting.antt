-- Where a text is cut.
use Rattle.std.proofs.Common.{◌≡◌, ℕ, zero, suc, ◌+◌, ◌<◌, ◌≤◌, List, [], ◌∷◌, ◌++◌, length, take, drop, true}
use Rattle.std.proofs.Common.{not, nat_eq, refl, ap, ◌∙◌, Option, Some, None, arith, length-append}
use Rattle.std.specs.List.{position_or_len}
use Rattle.cga_trace.specs.Cut.{lacks, byte_index, cut_at, cut_of}
use Rattle.cga_trace.proofs.Again.{both}
pub use Rattle.cga_fraction.proofs.Door.{false_from_not as not_true}
use Rattle.cga_fraction.proofs.Door.{nat_eq-same as same, nat_lt-same as not_below, nat_lt_from_lt as below_it}

take_seam : (x y : List ℕ) → take (length x) (x ++ y) ≡ x
take_seam [] [] = refl
take_seam [] (b ∷ y) = refl
take_seam (a ∷ x) y = ap (λ l. a ∷ l) (take_seam x y)

drop_seam : (x y : List ℕ) (b : ℕ) → drop (suc (length x)) (x ++ b ∷ y) ≡ y
drop_seam [] y b = refl
drop_seam (a ∷ x) y b = drop_seam x y b

drop_le : (xs : List ℕ) (n : ℕ) → length (drop n xs) ≤ length xs
drop_le [] zero = omega arith
drop_le [] (suc n) = omega arith
drop_le (x ∷ xs) zero = omega arith
drop_le (x ∷ xs) (suc n) = omega (arith, drop_le xs n)

drop_less : (xs : List ℕ) (n : ℕ) → 0 < length xs → length (drop (suc n) xs) < length xs
drop_less [] n h = absurd (omega (arith, h))
drop_less (x ∷ xs) n h = omega (arith, drop_le xs n)

module _ (byte : ℕ) where
  first_between : (x y : List ℕ) → lacks byte x ≡ true → position_or_len (λ b. nat_eq b byte) (x ++ byte ∷ y) ≡ length x
  first_between [] y e = rw (same byte) refl
  first_between (c ∷ cs) y e =
      let b = both (not (nat_eq c byte)) (lacks byte cs) e in
      rw (not_true (nat_eq c byte) b.0) (omega (arith, first_between cs y b.1))

  first_alone : (x : List ℕ) → lacks byte x ≡ true → position_or_len (λ b. nat_eq b byte) x ≡ length x
  first_alone [] e = refl
  first_alone (c ∷ cs) e =
      let b = both (not (nat_eq c byte)) (lacks byte cs) e in
      rw (not_true (nat_eq c byte) b.0) (omega (arith, first_alone cs b.1))

  place_between : (x y : List ℕ) → lacks byte x ≡ true → byte_index byte (x ++ byte ∷ y) ≡ Some (length x)
  place_between x y e =
      let l : length x < length (x ++ byte ∷ y) = omega (arith, length-append x (byte ∷ y)) in
      rw (first_between x y e, below_it (length x) (length (x ++ byte ∷ y)) l) refl

  place_alone : (x : List ℕ) → lacks byte x ≡ true → byte_index byte x ≡ None
  place_alone x e = rw (first_alone x e, not_below (length x)) refl

  pub cut_between : (x y : List ℕ) → lacks byte x ≡ true → cut_of byte (x ++ byte ∷ y) ≡ (x, y)
  unfolding cut_of
  cut_between x y e =
      let one : length x + 1 ≡ suc (length x) = omega arith in
      ap (cut_at (x ++ byte ∷ y)) (place_between x y e) ∙ (λ i. (take_seam x (byte ∷ y) i, (ap (λ n. drop n (x ++ byte ∷ y)) one ∙ drop_seam x y byte) i))

  pub cut_alone : (x : List ℕ) → lacks byte x ≡ true → cut_of byte x ≡ (x, [])
  unfolding cut_of
  cut_alone x e = ap (cut_at x) (place_alone x e)

  shorter_by : (text : List ℕ) (o : Option ℕ) → 0 < length text → length (cut_at text o).1 < length text
  shorter_by text None h = h
  shorter_by text (Some i) h =
      let one : i + 1 ≡ suc i = omega arith in
      let less = drop_less text i h in
      let same : length (drop (i + 1) text) ≡ length (drop (suc i) text) = ap (λ n. length (drop n text)) one in
      omega (arith, less, same)

  pub cut_shorter : (text : List ℕ) → 0 < length text → length (cut_of byte text).1 < length text
  unfolding cut_of
  cut_shorter text h = shorter_by text (byte_index byte text) h

  -- a word, and what is behind it
  pub cut_word : (x y text word rest : List ℕ) → lacks byte x ≡ true → text ≡ x ++ byte ∷ y
      → word ≡ (cut_of byte text).0 → rest ≡ (cut_of byte text).1 → (word ≡ x) × (rest ≡ y)
  cut_word x y text word rest e is w r =
      let cut = ap (cut_of byte) is ∙ cut_between x y e in
      (w ∙ ap (λ p. p.0) cut, r ∙ ap (λ p. p.1) cut)
