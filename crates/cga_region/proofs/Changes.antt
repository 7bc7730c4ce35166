-- What jobs tell of their own lots balances what the region's print draws.
use Rattle.std.proofs.Common.{◌≡◌, ℕ, ◌+◌, List, [], ◌∷◌, Bool, true, false, cond, ◌&&◌, inl, inr, refl, sym, ap, ◌∙◌, arith}
use Rattle.std.specs.Prelude.{count_by, filter}
use Rattle.std.proofs.lemmas.List.Sums.{sum_by-cons}
use Rattle.cga_agenda.proofs.Door.{count_append}
use Rattle.cga_order.specs.World.{Among}
use Rattle.cga_shape.specs.declared.changes.Changes.{Changes}
use Rattle.cga_shape.specs.declared.drawn.Drawn.{Drawn}
use Rattle.cga_bill.specs.Bill.{Balances}
use Rattle.cga_region.specs.Changes.{drawn_for, is_named, LeadTo, Step, told_by}

-- ---- what passes a test, counted by another

module _ {X : Type 0} (p : X → Bool) (test : X → Bool) where
  abbrev both_of : X → Bool
  both_of x = p x && test x

  one : (a b : Bool) (n m : ℕ) → n ≡ m → cond a (cond b 1 0 + n) n ≡ cond (a && b) 1 0 + m
  one true b n m e = ap (λ (k : ℕ). cond b 1 0 + k) e
  one false b n m e = omega (arith, e)

  pub count_filter : (xs : List X) → count_by test (filter p xs) ≡ count_by both_of xs
  count_filter [] = refl
  count_filter (x ∷ xs) = first (p x) ∙ (one (p x) (test x) _ _ (count_filter xs) ∙ sym (sum_by-cons (λ (y : X). cond (both_of y) 1 0) x xs))
    where
      first : (b : Bool)
          → count_by test (cond b (x ∷ filter p xs) (filter p xs))
          ≡ cond b (cond (test x) 1 0 + count_by test (filter p xs)) (count_by test (filter p xs))
      first true = sum_by-cons (λ (y : X). cond (test y) 1 0) x (filter p xs)
      first false = refl

-- tests that agree on a list keep the same of it
filter_same : {X : Type 0} (p q : X → Bool) (xs : List X) → ((x : X) → Among x xs → p x ≡ q x)
    → filter p xs ≡ filter q xs
filter_same p q [] h = refl
filter_same {X} p q (x ∷ xs) h =
    ap (λ (b : Bool). cond b (x ∷ filter p xs) (filter p xs)) (h x (inl refl))
    ∙ ap (λ (ys : List X). cond (q x) (x ∷ ys) ys) (filter_same p q xs (λ y k. h y (inr k)))

-- ---- the steps of a job

module _ (test : Drawn → Bool) where
  abbrev number : List Drawn → ℕ
  number list = count_by test list

  one_step : (names : List (List ℕ)) (before behind : List Drawn) (c : Changes) → Balances before behind c
      → number (drawn_for names before) + number (drawn_for names c.come)
      ≡ number (drawn_for names behind) + number (drawn_for names c.gone)
  one_step names before behind c balance =
      let p : Drawn → Bool = λ (d : Drawn). is_named names d.lot in
      let a = count_filter p test before in
      let b = count_filter p test c.come in
      let e = count_filter p test behind in
      let f = count_filter p test c.gone in
      let g = balance (λ (d : Drawn). p d && test d) in
      omega (arith, a, b, e, f, g)

  pub all_steps : (names : List (List ℕ)) (before : List Drawn) (steps : List Step) (others : List (List ℕ))
      (behind : List Drawn)
      → LeadTo names before steps others behind
      → number (drawn_for names before) + number (told_by steps).come
      ≡ number (drawn_for others behind) + number (told_by steps).gone
  all_steps names before [] others behind led =
      let e : number (drawn_for names before) ≡ number (drawn_for others behind)
      = ap number (filter_same (λ (d : Drawn). is_named names d.lot) (λ (d : Drawn). is_named others d.lot) before led.1)
      ∙ ap (λ (list : List Drawn). number (drawn_for others list)) led.0 in
      omega (arith, e)
  all_steps names before (step ∷ steps) others behind led =
      let first : number (drawn_for names before) ≡ number (drawn_for step.names before)
      = ap number (filter_same (λ (d : Drawn). is_named names d.lot) (λ (d : Drawn). is_named step.names d.lot) before led.0) in
      let now = one_step step.names before step.drawn step.changes led.1 in
      let rest = all_steps step.names step.drawn steps others behind led.2 in
      let come = count_append test (drawn_for step.names step.changes.come) (told_by steps).come in
      let gone = count_append test (drawn_for step.names step.changes.gone) (told_by steps).gone in
      omega (arith, first, now, rest, come, gone)
