-- A number of at most 18 digits has the value that its digits write.
use Rattle.std.proofs.Common.{◌≡◌, ℕ, zero, suc, ◌+◌, ◌<◌, ◌≤◌, ◌==◌, Bool, true, false, List, [], ◌∷◌, ◌++◌, length}
use Rattle.std.proofs.Common.{take, drop, drop-drop, length-take, Ok, pos, arith, ap, sym, ◌∙◌, refl, subst}
use Rattle.std.proofs.Common.{if◌then◌else◌}
use Rattle.std.proofs.Math.Seq.{take-append-add}
use Rattle.std.proofs.lemmas.List.{take-append-drop, append-nil}
use Rattle.std.proofs.lemmas.Bool.Decides.{eqb_tells}
use Rattle.std.specs.Char.{is_ascii_digit}
use Rattle.std.specs.List.{list_all}
use Rattle.std.specs.Str.Parse.{digits_value}
use Rattle.cga_fraction.specs.Arithmetic.{reduced}
use Rattle.cga_fraction.specs.Decimals.{decimal_of, value_of}
use Rattle.cga_fraction.proofs.Door.{reads_parts, reads_whole}
use Rattle.cga_lexer.specs.Bytes.{run, begins}
use Rattle.cga_lexer.specs.Front.{decimals, with_point, number_len, digit_count, before, behind}
use Rattle.cga_lexer.proofs.Running.{run_within}
use Rattle.cga_lexer.proofs.Names.{all_run}

take_further : (n k : ℕ) (text : List ℕ) → n ≤ length text → take (n + k) text ≡ take n text ++ take k (drop n text)
take_further n k text h =
    let l : n ≡ length (take n text) = omega (arith, length-take n text) in
    ap (take (n + k)) (sym (take-append-drop n text)) ∙ ap (λ m. take (m + k) (take n text ++ drop n text)) l ∙ take-append-add (take n text) (drop n text) k

run_some : (test : ℕ → Bool) (text : List ℕ) → begins test text ≡ true → 0 < run test text
unfolding run
run_some test [] h = absurd (let q : false ≡ true = h in cc)
run_some test (b ∷ bs) h = let e : run test (b ∷ bs) ≡ suc (run test bs) = ap (λ t. if t then suc (run test bs) else 0) h in omega (arith, e)

module _ (text : List ℕ) (some : 0 < run is_ascii_digit text) where
  within : run is_ascii_digit text ≤ length text
  within = run_within is_ascii_digit text

  before_length : length (before text) ≡ run is_ascii_digit text
  before_length = omega (arith, length-take (run is_ascii_digit text) text, within)

  whole_value : run is_ascii_digit text ≤ 18
      → decimal_of (take (run is_ascii_digit text + 0) text) ≡ Ok (value_of (before text) [])
  whole_value few =
      let e : run is_ascii_digit text + 0 ≡ run is_ascii_digit text = omega arith in
      ap (λ n. decimal_of (take n text)) e ∙ reads_whole (before text) (omega (arith, before_length)) (all_run is_ascii_digit text) (omega (arith, before_length))
      ∙ ap (λ ds. Ok (reduced (pos (digits_value 10 ds)) 1)) (sym (append-nil (before text)))

  pointed_value : (cs : List ℕ) → drop (run is_ascii_digit text) text ≡ 46 ∷ cs → (n : ℕ)
      → run is_ascii_digit cs ≡ suc n → run is_ascii_digit text + suc n ≤ 18
      → decimal_of (take (run is_ascii_digit text + suc (suc n)) text) ≡ Ok
      (value_of (before text) (take (suc n) (drop (run is_ascii_digit text + 1) text)))
  pointed_value cs e n r few =
      let ds = take (suc n) cs in
      let l : length ds ≡ suc n = omega (arith, length-take (suc n) cs, run_within is_ascii_digit cs, r) in
      let all : list_all is_ascii_digit ds ≡ true = subst (λ m. list_all is_ascii_digit (take m cs) ≡ true) r (all_run is_ascii_digit cs) in
      let taken : take (run is_ascii_digit text + suc (suc n)) text ≡ before text ++ 46
      ∷ ds = take_further (run is_ascii_digit text) (suc (suc n)) text within ∙ ap (λ z. before text ++ take (suc (suc n)) z) e in
      let rest : cs ≡ drop (run is_ascii_digit text + 1) text = sym (ap (drop 1) e) ∙ drop-drop 1 (run is_ascii_digit text) text in
      ap decimal_of taken ∙ reads_parts (before text) ds (omega (arith, before_length)) (all_run is_ascii_digit text) (omega (arith, l)) all (omega (arith, before_length, l))
      ∙ ap (λ z. Ok (value_of (before text) (take (suc n) z))) rest

  abbrev Has : ℕ → Type 0
  Has n = decimal_of (take (run is_ascii_digit text + with_point n) text) ≡ Ok (value_of (before text) (take n (drop (run is_ascii_digit text + 1) text)))

  by_point : (c : ℕ) (cs : List ℕ) → drop (run is_ascii_digit text) text ≡ c ∷ cs → (t : Bool) → (c == 46) ≡ t → (n : ℕ)
      → (if t then run is_ascii_digit cs else 0) ≡ n → run is_ascii_digit text + n ≤ 18 → Has n
  by_point c cs e t q zero d few = whole_value (omega (arith, few))
  by_point c cs e false q (suc n) d few = absurd (omega (arith, d))
  by_point c cs e true q (suc n) d few =
      let point : c ≡ 46 = grind (arith, eqb_tells c 46) in
      pointed_value cs (e ∙ ap (λ z. z ∷ cs) point) n d few

  by_rest : (rest : List ℕ) → drop (run is_ascii_digit text) text ≡ rest → (n : ℕ) → decimals rest ≡ n
      → run is_ascii_digit text + n ≤ 18 → Has n
  by_rest [] e zero d few = whole_value (omega (arith, few))
  by_rest [] e (suc n) d few = absurd (omega (arith, d))
  by_rest (c ∷ cs) e n d few = by_point c cs e (c == 46) refl n d few

pub number_value : (text : List ℕ) → begins is_ascii_digit text ≡ true → digit_count text ≤ 18
    → decimal_of (take (number_len text) text) ≡ Ok (value_of (before text) (behind text))
number_value text b few = by_rest text (run_some is_ascii_digit text b) (drop (run is_ascii_digit text) text) refl (decimals (drop (run is_ascii_digit text) text)) refl few
