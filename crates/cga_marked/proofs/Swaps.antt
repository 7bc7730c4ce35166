-- Two places of a list exchanged.
use Rattle.std.proofs.Common.{◌≡◌, ◌≢◌, ℕ, ◌+◌, ◌-◌, ◌<◌, ◌≤◌, List, [], ◌∷◌, ◌++◌, length, get_or, set, take, swap, refl, sym, ap, subst, ◌∙◌, arith}
use Rattle.std.specs.List.{swap_remove}
use Rattle.std.specs.List.Sorted.{IsPermutation}
use Rattle.std.proofs.lemmas.List.{same_lists, take-set-le, take-take, take_more, length-take-le, get_or-take}
use Rattle.std.proofs.Math.Seq.{take-set-lt}
use Rattle.std.proofs.lemmas.List.Edits.{length-swap, swap_is, swapped_from_swap}
use Rattle.std.proofs.lemmas.Option.{get_or_from_slice_get, slice_get-get_or, slice_get_within}
use Rattle.std.specs.Prelude.{Some, slice_get}
use Rattle.std.proofs.lemmas.List.Sorted.{IsPermutation-swap_remove}
use Rattle.indexmap.proofs.ReorderLemmas.{exchange, exchange-twice, get_or-swap}

module _ {X : Type 0} (xs : List X) where
  pub swap_twice : (a b : ℕ) → a < length xs → b < length xs → swap (swap xs a b) a b ≡ xs
  swap_twice a b p q =
      let n : length (swap xs a b) ≡ length xs = length-swap xs a b in
      let m : length (swap (swap xs a b) a b) ≡ length xs = length-swap (swap xs a b) a b ∙ n in
      same_lists _ _ m (λ k d h.
      get_or-swap (swap xs a b) a b d (omega (arith, p, n)) (omega (arith, q, n)) k
      ∙ get_or-swap xs a b d p q (exchange a b k)
      ∙ ap (λ i. get_or xs i d) (exchange-twice a b k))

  -- two of the first n
  pub take_swap : (n a b : ℕ) (d : X) → a < n → b < n → n ≤ length xs → take n (swap xs a b) ≡ swap (take n xs) a b
  take_swap n a b d la lb le =
      let m : length (take n xs) ≡ n = length-take-le n xs le in
      ap (take n) (sym (swap_is xs a b d (omega (arith, la, le)) (omega (arith, lb, le))))
      ∙ take-set-lt n (set xs a (get_or xs b d)) b (get_or xs a d) lb
      ∙ ap (λ l. set l b (get_or xs a d)) (take-set-lt n xs a (get_or xs b d) la)
      ∙ ap (λ x. set (set (take n xs) a x) b (get_or xs a d)) (sym (get_or-take n xs b d lb))
      ∙ ap (λ x. set (set (take n xs) a (get_or (take n xs) b d)) b x) (sym (get_or-take n xs a d la))
      ∙ swap_is (take n xs) a b d (omega (arith, la, m)) (omega (arith, lb, m))

  -- what stands before both stays
  pub take_before : (n a b : ℕ) (d : X) → n ≤ a → n ≤ b → a < length xs → b < length xs
      → take n (swap xs a b) ≡ take n xs
  take_before n a b d h k p q =
      ap (take n) (sym (swap_is xs a b d p q))
      ∙ take-set-le n (set xs a (get_or xs b d)) b (get_or xs a d) k
      ∙ take-set-le n xs a (get_or xs b d) h

  -- one brought to the place behind the first a
  pub take_brought : (a b : ℕ) (x : X) → a ≤ b → b < length xs → x ≡ get_or xs b x
      → take (a + 1) (swap xs a b) ≡ take a xs ++ x ∷ []
  take_brought a b x h q at =
      let p : a < length xs = omega (arith, h, q) in
      let n : length (swap xs a b) ≡ length xs = length-swap xs a b in
      let moved = swapped_from_swap xs _ a b x p q refl in
      take_more (swap xs a b) a x (omega (arith, p, n))
      ∙ ap (λ l. l ++ get_or (swap xs a b) a x ∷ []) (take_before a a b x (omega arith) h p q)
      ∙ ap (λ y. take a xs ++ y ∷ []) (moved.0 ∙ sym at)

  -- the last of the first j + 1 brought to the place of one of them
  swapped_out : (i j : ℕ) (x : X) → i ≤ j → j < length xs → take j (swap xs i j) ≡ swap_remove (take (j + 1) xs) i x
  swapped_out i j x h q =
      let p : i < length xs = omega (arith, h, q) in
      let front = take (j + 1) xs in
      let n : length front ≡ j + 1 = length-take-le (j + 1) xs (omega (arith, q)) in
      let last : length front - 1 ≡ j = omega (arith, n) in
      let v = get_or xs j x in
      let w : get_or front j x ≡ v = get_or-take (j + 1) xs j x (omega arith) in
      let left : take j (swap xs i j) ≡ take j (set xs i v) =
      ap (take j) (sym (swap_is xs i j x p q)) ∙ take-set-le j (set xs i v) j (get_or xs i x) (omega arith) in
      let right : take j (set front i v) ≡ take j (set xs i v) =
      ap (take j) (sym (take-set-lt (j + 1) xs i v (omega (arith, h)))) ∙ take-take j (j + 1) (set xs i v) (omega arith) in
      left ∙ sym right
      ∙ ap (λ y. take j (set front i y)) (sym w)
      ∙ ap (λ m. take m (set front i (get_or front m x))) (sym last)

  pub brought_out : (i j : ℕ) (x : X) → i ≤ j → j < length xs → x ≡ get_or xs i x
      → IsPermutation (take (j + 1) xs) (x ∷ take j (swap xs i j))
  brought_out i j x h q at =
      let n : length (take (j + 1) xs) ≡ j + 1 = length-take-le (j + 1) xs (omega (arith, q)) in
      let there : x ≡ get_or (take (j + 1) xs) i x = at ∙ sym (get_or-take (j + 1) xs i x (omega (arith, h))) in
      subst (λ l. IsPermutation (take (j + 1) xs) (x ∷ l)) (sym (swapped_out i j x h q)) (IsPermutation-swap_remove (take (j + 1) xs) i x (omega (arith, n, h)) there)

  -- a member at neither place stays
  pub swap_kept : (a b k : ℕ) (x : X) → a < length xs → b < length xs → k ≢ a → k ≢ b
      → slice_get (swap xs a b) k ≡ Some x → slice_get xs k ≡ Some x
  swap_kept a b k x p q na nb at =
      let moved = swapped_from_swap xs (swap xs a b) a b x p q refl in
      let low = slice_get_within (swap xs a b) k x at in
      let n = length-swap xs a b in
      slice_get-get_or xs k x (omega (arith, low, n)) ∙ ap (λ y. Some y) (sym (moved.2 k na nb) ∙ get_or_from_slice_get (swap xs a b) k x x at)
