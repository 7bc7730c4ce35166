-- What a read of bytes in memory gives, and what it leaves.
use Rattle.std.proofs.Common.{◌≡◌, ◌∙◌, ℕ, ◌+◌, ◌-◌, ◌<◌, List, [], ◌++◌, length, take, drop, min, sym, ap, arith}
use Rattle.std.proofs.Math.Seq.{take-add}
use Rattle.std.proofs.lemmas.List.{drop-drop, length-drop, nil_from_length, take-append-drop, take_all}

whole_rest : (t : ℕ) (bytes : List ℕ) → take (length bytes - t) (drop t bytes) ≡ drop t bytes
whole_rest t bytes = take_all (length bytes - t) (drop t bytes) (omega (arith, length-drop t bytes))

module _ (all bytes buf : List ℕ) (t n : ℕ) (same : all ≡ bytes) (copied : take n buf ≡ take n (take (length all - t) (drop t all))) where
  given_here : take n buf ≡ take n (drop t bytes)
  given_here = copied ∙ ap (λ (l : List ℕ). take n (take (length l - t) (drop t l))) same ∙ ap (take n) (whole_rest t bytes)

  -- the bytes given grow by those that were copied
  pub given_on : (before now : List ℕ) → before ≡ take t bytes → now ≡ take (t + n) bytes → now ≡ before ++ take n buf
  given_on before now b a =
      a ∙ take-add t n bytes ∙ ap (λ (l : List ℕ). take t bytes ++ l) (sym given_here) ∙ ap (λ (l : List ℕ). l ++ take n buf) (sym b)

  -- and those that are left lose them
  pub left_on : (before now : List ℕ) → before ≡ drop t bytes → now ≡ drop (t + n) bytes → before ≡ take n buf ++ now
  left_on before now b a =
      b ∙ sym (take-append-drop n (drop t bytes)) ∙ ap (λ (l : List ℕ). l ++ drop n (drop t bytes)) (sym given_here)
      ∙ ap (λ (l : List ℕ). take n buf ++ l) (drop-drop n t bytes ∙ sym a)

  -- where none was copied and there was room, none is left
  pub none_on : (most room : ℕ) (now : List ℕ) → now ≡ drop (t + n) bytes
      → n ≡ min (min (length (take (length all - t) (drop t all))) most) room → 0 < most → 0 < room → n ≡ 0 → now ≡ []
  none_on most room now a count some fits none =
      let size : length (take (length all - t) (drop t all)) ≡ length (drop t bytes) = ap (λ (l : List ℕ). length (take (length l - t) (drop t l))) same ∙ ap length (whole_rest t bytes) in
      let nothing : length (drop t bytes) ≡ 0 = omega (arith, count, size, some, fits, none) in
      let later : length (drop (t + n) bytes) ≡ 0 = omega (arith, length-drop t bytes, length-drop (t + n) bytes, nothing) in
      a ∙ nil_from_length (drop (t + n) bytes) later
