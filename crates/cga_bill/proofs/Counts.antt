-- Lists that have each member as often have equal sums.
use Rattle.std.proofs.Common.{◌≡◌, ℕ, zero, suc, ◌+◌, ◌≤◌, ◌<◌, List, [], ◌∷◌, ◌++◌, refl, sym, ◌∙◌, ap, arith, Bool, true, false, cond}
use Rattle.std.specs.Prelude.{count_by, sum_by, nat_lt}
use Rattle.std.specs.List.{filter}
use Rattle.std.proofs.lemmas.List.Sums.{sum_by-cons, sum_by-append}
use Rattle.std.proofs.lemmas.Grind.{common_steps}
use Rattle.cga_fraction.proofs.Door.{nat_lt_from_lt as yes, sum_by-plus, sum_by-zeros}

-- a number cut at m
abbrev cut : ℕ → ℕ → ℕ
cut n zero = 0
cut n (suc m) = cut n m + cond (nat_lt m n) 1 0

no : (m n : ℕ) → n ≤ m → nat_lt m n ≡ false
no m n h = grind (arith, common_steps)

cut_below : (n m : ℕ) → m ≤ n → cut n m ≡ m
cut_below n zero h = refl
cut_below n (suc m) h = rw (yes m n (omega arith)) (ap (λ (k : ℕ). k + 1) (cut_below n m (omega arith)) ∙ omega arith)

cut_whole : (n m : ℕ) → n ≤ m → cut n m ≡ n
cut_whole n zero h = omega arith
cut_whole n (suc m) h =
    elim (nat_lt m n) as (λ (b : Bool). nat_lt m n ≡ b → cut n m + cond b 1 0 ≡ n) [
      | true ↦ λ e. let s : m < n = grind (arith, common_steps) in ap (λ (k : ℕ). k + 1) (cut_below n m (omega arith)) ∙ omega arith
      | false ↦ λ e. let s : n ≤ m = grind (arith, common_steps) in ap (λ (k : ℕ). k + 0) (cut_whole n m s) ∙ omega arith
    ] refl

module _ {X : Type 0} where
  -- each test passes as often in both
  abbrev pub SameCounts : List X → List X → Type 0
  SameCounts xs ys = (test : X → Bool) → count_by test xs ≡ count_by test ys

  cut_same : (f : X → ℕ) (xs ys : List X) → SameCounts xs ys → (m : ℕ)
      → sum_by (λ (x : X). cut (f x) m) xs ≡ sum_by (λ (x : X). cut (f x) m) ys
  cut_same f xs ys h zero = sum_by-zeros xs ∙ sym (sum_by-zeros ys)
  cut_same f xs ys h (suc m) =
      let test : X → Bool = λ (x : X). nat_lt m (f x) in
      let g : X → ℕ = λ (x : X). cut (f x) m in
      let o : X → ℕ = λ (x : X). cond (test x) 1 0 in
      sum_by-plus g o xs ∙ (ap (λ (n : ℕ). n + sum_by o xs) (cut_same f xs ys h m) ∙ (ap (λ (n : ℕ). sum_by g ys + n) (h test) ∙ sym (sum_by-plus g o ys)))

  cut_all : (f : X → ℕ) (m : ℕ) (xs : List X) → sum_by f xs ≤ m → sum_by (λ (x : X). cut (f x) m) xs ≡ sum_by f xs
  cut_all f m [] h = refl
  cut_all f m (x ∷ xs) h =
      let a = sum_by-cons f x xs in
      let b = sum_by-cons (λ (x : X). cut (f x) m) x xs in
      let c : cut (f x) m ≡ f x = cut_whole (f x) m (omega (arith, a)) in
      let d : sum_by (λ (x : X). cut (f x) m) xs ≡ sum_by f xs = cut_all f m xs (omega (arith, a)) in
      omega (arith, a, b, c, d)

  pub sum_same : (f : X → ℕ) (xs ys : List X) → SameCounts xs ys → sum_by f xs ≡ sum_by f ys
  sum_same f xs ys h =
      let m : ℕ = sum_by f xs + sum_by f ys in
      sym (cut_all f m xs (omega arith)) ∙ (cut_same f xs ys h m ∙ cut_all f m ys (omega arith))

  -- the sum over those that pass a test
  sum_filter : (f : X → ℕ) (p : X → Bool) (xs : List X)
      → sum_by f (filter p xs) ≡ sum_by (λ (x : X). cond (p x) (f x) 0) xs
  sum_filter f p [] = refl
  sum_filter f p (x ∷ xs) =
      let g : X → ℕ = λ (x : X). cond (p x) (f x) 0 in
      elim (p x) as (λ (b : Bool). p x ≡ b → sum_by f (cond b (x ∷ filter p xs) (filter p xs)) ≡ sum_by g (x ∷ xs)) [
        | true ↦ λ e.
            let a = sum_by-cons f x (filter p xs) in
            let b = sum_by-cons g x xs in
            let c : g x ≡ f x = rw e refl in
            let d = sum_filter f p xs in
            omega (arith, a, b, c, d)
        | false ↦ λ e.
            let b = sum_by-cons g x xs in
            let c : g x ≡ 0 = rw e refl in
            let d = sum_filter f p xs in
            omega (arith, b, c, d)
      ] refl

  pub filtered_same : (f : X → ℕ) (p : X → Bool) (xs ys : List X) → SameCounts xs ys
      → sum_by f (filter p xs) ≡ sum_by f (filter p ys)
  filtered_same f p xs ys h = sum_filter f p xs ∙ (sum_same (λ (x : X). cond (p x) (f x) 0) xs ys h ∙ sym (sum_filter f p ys))

  pub appended_same : (xs ys us vs : List X)
      → ((test : X → Bool) → count_by test xs + count_by test ys ≡ count_by test us + count_by test vs)
      → SameCounts (xs ++ ys) (us ++ vs)
  appended_same xs ys us vs h = λ test.
      sum_by-append (λ (x : X). cond (test x) 1 0) xs ys ∙ (h test ∙ sym (sum_by-append (λ (x : X). cond (test x) 1 0) us vs))
