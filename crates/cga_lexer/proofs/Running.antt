-- A run, one byte further.
use Rattle.std.proofs.Common.{◌≡◌, ℕ, suc, ◌+◌, ◌<◌, ◌≤◌, Bool, true, false, List, [], ◌∷◌, length, drop, get_or, arith, ap, ◌∙◌, refl, if◌then◌else◌}
use Rattle.std.proofs.lemmas.List.{at_drop_more, at_drop_all}
use Rattle.cga_lexer.specs.Bytes.{run}

run_step : (test : ℕ → Bool) (b : ℕ) (bs : List ℕ) (t : Bool) → test b ≡ t
    → run test (b ∷ bs) ≡ (if t then suc (run test bs) else 0)
unfolding run
run_step test b bs t e = ap (λ z. if z then suc (run test bs) else 0) e

run_nil : (test : ℕ → Bool) → run test [] ≡ 0
unfolding run
run_nil test = refl

module _ (test : ℕ → Bool) (text : List ℕ) (n i : ℕ) (h : n ≡ i + run test (drop i text)) where
  pub run_on : i < length text → test (get_or text i 0) ≡ true → n ≡ (i + 1) + run test (drop (i + 1) text)
  run_on lt e = let a = at_drop_more (λ r. run test r) text i 0 lt ∙ run_step test (get_or text i 0) (drop (i + 1) text) true e in omega (arith, h, a)

  pub run_stops : i < length text → test (get_or text i 0) ≡ false → n ≡ i
  run_stops lt e = let a = at_drop_more (λ r. run test r) text i 0 lt ∙ run_step test (get_or text i 0) (drop (i + 1) text) false e in omega (arith, h, a)

  pub run_ends : length text ≤ i → n ≡ i
  run_ends le = let a : run test (drop i text) ≡ 0 = at_drop_all (λ r. run test r) text i le ∙ run_nil test in omega (arith, h, a)

within_step : (test : ℕ → Bool) (b : ℕ) (bs : List ℕ) (t : Bool) → test b ≡ t → run test bs ≤ length bs
    → run test (b ∷ bs) ≤ suc (length bs)
within_step test b bs true e h = omega (arith, run_step test b bs true e)
within_step test b bs false e h = omega (arith, run_step test b bs false e)

-- a run is no longer than the text
pub run_within : (test : ℕ → Bool) (text : List ℕ) → run test text ≤ length text
run_within test [] = omega (arith, run_nil test)
run_within test (b ∷ bs) = within_step test b bs (test b) refl (run_within test bs)
