-- Lists in which each element stands once.
use Rattle.std.proofs.Common.{◌≡◌, ℕ, suc, ◌+◌, ◌≤◌, List, [], ◌∷◌, ◌++◌, length, refl, sym, ap, ◌∙◌, subst, ◌⊎◌, inl, inr, arith, Some}
use Rattle.std.specs.Prelude.{slice_get, count_by, sum_by, cond, Bool}
use Rattle.std.proofs.lemmas.List.Sums.{sum_by-append}
use Rattle.cga_order.specs.World.{Among}
use Rattle.cga_order.specs.Once.{Once}

module _ {X : Type 0} where
  -- an element of two lists joined is one of the first or of the second
  pub Among-append : (xs ys : List X) (x : X) → Among x (xs ++ ys) → Among x xs ⊎ Among x ys
  Among-append [] ys x h = inr h
  Among-append (z ∷ xs) ys x h = elim h [
    | inl e ↦ inl (inl e)
    | inr r ↦ elim (Among-append xs ys x r) [ inl a ↦ inl (inr a) | inr b ↦ inr b ]
  ]

  -- where two lists have each element once and share none, joined they have each once
  pub Once-append : (xs ys : List X) → Once xs → Once ys → ((x : X) → Among x xs → Among x ys → ⊥) → Once (xs ++ ys)
  Once-append [] ys o p d = p
  Once-append (z ∷ xs) ys o p d =
      ((λ h. elim (Among-append xs ys z h) [ inl a ↦ o.0 a | inr b ↦ d z (inl refl) b ]), Once-append xs ys o.1 p (λ x h g. d x (inr h) g))

  sum_cons : (f : X → ℕ) (x : X) (xs : List X) → sum_by f (x ∷ xs) ≡ f x + sum_by f xs
  sum_cons f x xs = let e = sum_by-append f (x ∷ []) xs in omega (arith, e)

  -- a list without one of its elements
  without : (xs : List X) (x : X) → Among x xs
      → (ys : List X) × (length xs ≡ length ys + 1) × ((y : X) → Among y xs → (y ≡ x) ⊎ Among y ys)
      × ((f : X → ℕ) → sum_by f xs ≡ f x + sum_by f ys)
  without [] x h = absurd h
  without (z ∷ xs) x h = elim h [
    | inl e ↦ (xs, omega arith, (λ y i. elim i [ inl f ↦ inl (sym f ∙ e) | inr r ↦ inr r ]), λ f. sum_cons f z xs ∙ ap (λ y. f y + sum_by f xs) e)
    | inr r ↦
        let w = without xs x r in (
          z ∷ w.0,
          omega (arith, w.1),
          (λ y i.
              elim i [ inl f ↦ inr (inl f) | inr j ↦ elim (w.2 y j) [ inl e ↦ inl e | inr k ↦ inr (inr k) ] ]),
          λ f. omega (arith, sum_cons f z xs, sum_cons f z w.0, w.3 f),
        )
  ]

  sum-once : (f : X → ℕ) (xs ys : List X) → Once xs → ((x : X) → Among x xs → Among x ys) → sum_by f xs ≤ sum_by f ys
  sum-once f [] ys o h = omega arith
  sum-once f (x ∷ xs) ys o h =
      let w = without ys x (h x (inl refl)) in
      let rest = sum-once f xs w.0 o.1 (λ y i. elim (w.2 y (h y (inr i))) [ inl e ↦ absurd (o.0 (subst (λ z. Among z xs) e i)) | inr r ↦ r ]) in
      omega (arith, rest, w.3 f, sum_cons f x xs)

  -- two lists of the same elements, each once, have each as often
  pub count-once : (test : X → Bool) (xs ys : List X) → Once xs → Once ys → ((x : X) → Among x xs → Among x ys)
      → ((x : X) → Among x ys → Among x xs) → count_by test xs ≡ count_by test ys
  count-once test xs ys o p to from =
      let one = sum-once (λ x. cond (test x) 1 0) xs ys o to in
      let other = sum-once (λ x. cond (test x) 1 0) ys xs p from in
      omega (arith, one, other)

  -- a list with each element once is no longer than a list that has all its elements
  pub length-once : (xs ys : List X) → Once xs → ((x : X) → Among x xs → Among x ys) → length xs ≤ length ys
  length-once [] ys o h = omega arith
  length-once (x ∷ xs) ys o h =
      let w = without ys x (h x (inl refl)) in
      let rest = length-once xs w.0 o.1 (λ y i. elim (w.2 y (h y (inr i))) [ inl e ↦ absurd (o.0 (subst (λ z. Among z xs) e i)) | inr r ↦ r ]) in
      omega (arith, rest, w.1)

  Among-index : (xs : List X) (x : X) → Among x xs → (i : ℕ) × (slice_get xs i ≡ Some x)
  Among-index [] x h = absurd h
  Among-index (z ∷ xs) x h = elim h [ inl e ↦ (0, ap Some e) | inr r ↦ let w = Among-index xs x r in (suc w.0, w.1) ]

  -- where no element has two places
  pub Once-index : (xs : List X) → ((x : X) (i j : ℕ) → slice_get xs i ≡ Some x → slice_get xs j ≡ Some x → i ≡ j)
      → Once xs
  Once-index [] h = tt
  Once-index (x ∷ xs) h = (
    (λ g. let w = Among-index xs x g in let e : 0 ≡ suc w.0 = h x 0 (suc w.0) refl w.1 in
        absurd (omega (arith, e))),
    Once-index xs (λ y i j a b. let e : suc i ≡ suc j = h y (suc i) (suc j) a b in omega (arith, e)),
  )
