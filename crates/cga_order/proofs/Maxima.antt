-- The maxima of a list grow with it.
use Rattle.std.proofs.Common.{◌≡◌, List, [], ◌∷◌, ◌++◌, Bool, true, false, cond, refl, sym, ap, ◌∙◌, subst, ◌⊎◌, inl, inr, ◌&&◌}
use Rattle.std.specs.declared.cmp.Ordering.{Ordering}
use Rattle.std.specs.declared.cmp.Ordering.TheVariants.{Less, Equal, Greater}
use Rattle.std.specs.Ordering.{is_lt, ordering_then, ordering_reverse}
use Rattle.std.specs.Cmp.{IsTotalOrder}
use Rattle.std.proofs.lemmas.Cmp.{tied_itself}
use Rattle.std.specs.Cmp.Lexicographic.{slice_cmp}
use Rattle.std.specs.List.{list_all}
use Rattle.cga_order.specs.Stamp.{maxima}
pub use Rattle.std.proofs.lemmas.Bool.{cases_Bool as either}
use Rattle.cga_fraction.proofs.Door.{Less_from_is_lt}

module _ {R : Type 0} (cmp : R → R → Ordering) (o : IsTotalOrder cmp) where
  abbrev pub under : R → R → Bool
  under r q = is_lt (cmp q r)

  abbrev pub In : R → List R → Type 0
  In q [] = ⊥
  In q (x ∷ xs) = (x ≡ q) ⊎ In q xs

  abbrev pub Apart : R → List R → Type 0
  Apart r [] = Unit {0}
  Apart r (q ∷ rs) = ((cmp q r ≡ Equal) → ⊥) × Apart r rs

  pub Apart-push : (r q : R) (rs : List R) → Apart r rs → (cmp q r ≡ Equal → ⊥) → Apart r (rs ++ q ∷ [])
  Apart-push r q [] a h = (h, tt)
  Apart-push r q (x ∷ xs) a h = (a.0, Apart-push r q xs a.1 h)

  -- where the test for less is false, the comparison isn't less
  pub less_not : (a : Ordering) → is_lt a ≡ false → a ≡ Less → ⊥
  less_not a e l = cc

  -- three ways for two
  pub split : (x y : R) → (cmp x y ≡ Less) ⊎ ((cmp x y ≡ Equal) ⊎ (cmp y x ≡ Less))
  split x y = elim (cmp x y) as (λ v. cmp x y ≡ v → (v ≡ Less) ⊎ ((v ≡ Equal) ⊎ (cmp y x ≡ Less))) [
    | Less ↦ λ e. inl refl
    | Equal ↦ λ e. inr (inl refl)
    | Greater ↦ λ e. inr (inr (o.antisymm y x ∙ ap ordering_reverse e))
  ] refl

  -- no two elements are each less than the other
  pub not_both : (x y : R) → cmp x y ≡ Less → cmp y x ≡ Less → ⊥
  not_both x y a b = let e = o.antisymm x y ∙ ap ordering_reverse b in cc

  -- no element is less than itself
  pub not_self : (x : R) → cmp x x ≡ Less → ⊥
  not_self x a = let e = tied_itself o x in cc

  -- x below y, and z not below y: x is below z
  pub past : (x y z : R) → cmp x y ≡ Less → (cmp z y ≡ Less → ⊥) → cmp x z ≡ Less
  past x y z a b = elim (split z y) [
    | inl e ↦ absurd (b e)
    | inr r ↦ elim r [
      | inl e ↦ o.antisymm x z ∙ ap ordering_reverse (o.congr z y x e ∙ (o.antisymm y x ∙ ap ordering_reverse a))
      | inr e ↦ o.trans x y z a e
    ]
  ]

  pub under_all : (r : R) (rs : List R) → list_all (under r) rs ≡ true → (q : R) → In q rs → cmp q r ≡ Less
  under_all r [] e q i = absurd i
  under_all r (x ∷ rs) e q i = elim (either (under r x)) [
    | inl h ↦ elim i [
      | inl s ↦ subst (λ y. cmp y r ≡ Less) s (Less_from_is_lt _ h)
      | inr j ↦ under_all r rs (sym (ap (λ b. b && list_all (under r) rs) h) ∙ e) q j
    ]
    | inr h ↦ let f : false ≡ true = sym (ap (λ b. b && list_all (under r) rs) h) ∙ e in cc
  ]

  pub over_some : (r : R) (rs : List R) → list_all (under r) rs ≡ false → (q : R) × In q rs × (cmp q r ≡ Less → ⊥)
  over_some r [] e = let f : true ≡ false = e in cc
  over_some r (x ∷ rs) e = elim (either (under r x)) [
    | inl h ↦ let g = over_some r rs (sym (ap (λ b. b && list_all (under r) rs) h) ∙ e) in (g.0, inr g.1, g.2)
    | inr h ↦ (x, inl refl, less_not _ h)
  ]

  -- the first of the maxima, which is at least each element
  pub top : (rs : List R) (q : R) → In q rs → (h : R) × (t : List R) × (maxima cmp rs ≡ h ∷ t) × (cmp h q ≡ Less → ⊥)
  top [] q i = absurd i
  top (x ∷ xs) q i = elim (either (list_all (under x) xs)) [
    | inl e ↦ (
      x,
      maxima cmp xs,
      ap (λ b. cond b (x ∷ maxima cmp xs) (maxima cmp xs)) e,
      λ l. elim i [
        | inl s ↦ not_self x (subst (λ y. cmp x y ≡ Less) (sym s) l)
        | inr j ↦ not_both x q l (under_all x xs e q j)
      ],
    )
    | inr e ↦ elim i [
      | inl s ↦
          let y = over_some x xs e in
          let u = top xs y.0 y.1 in (
            u.0,
            u.1,
            ap (λ b. cond b (x ∷ maxima cmp xs) (maxima cmp xs)) e ∙ u.2,
            λ l. u.3 (past u.0 x y.0 (subst (λ z. cmp u.0 z ≡ Less) (sym s) l) y.2),
          )
      | inr j ↦
          let u = top xs q j in
          (u.0, u.1, ap (λ b. cond b (x ∷ maxima cmp xs) (maxima cmp xs)) e ∙ u.2, u.3)
    ]
  ]

  abbrev pub cmps : List R → List R → Ordering
  cmps = slice_cmp cmp

  pub at_true : (x : R) (xs : List R) → list_all (under x) xs ≡ true → maxima cmp (x ∷ xs) ≡ x ∷ maxima cmp xs
  at_true x xs e = ap (λ b. cond b (x ∷ maxima cmp xs) (maxima cmp xs)) e

  pub at_false : (x : R) (xs : List R) → list_all (under x) xs ≡ false → maxima cmp (x ∷ xs) ≡ maxima cmp xs
  at_false x xs e = ap (λ b. cond b (x ∷ maxima cmp xs) (maxima cmp xs)) e

  all_push : (x r : R) (xs : List R) → list_all (under x) xs ≡ true → under x r ≡ true
      → list_all (under x) (xs ++ r ∷ []) ≡ true
  all_push x r [] e f = ap (λ b. b && true) f
  all_push x r (y ∷ xs) e f = elim (either (under x y)) [
    | inl h ↦ ap (λ b. b && list_all (under x) (xs ++ r ∷ [])) h ∙ all_push x r xs (sym (ap (λ b. b && list_all (under x) xs) h) ∙ e) f
    | inr h ↦ let g : false ≡ true = sym (ap (λ b. b && list_all (under x) xs) h) ∙ e in cc
  ]

  all_not_push : (x r : R) (xs : List R) → list_all (under x) xs ≡ false → list_all (under x) (xs ++ r ∷ []) ≡ false
  all_not_push x r [] e = let g : true ≡ false = e in cc
  all_not_push x r (y ∷ xs) e = elim (either (under x y)) [
    | inl h ↦ ap (λ b. b && list_all (under x) (xs ++ r ∷ [])) h ∙ all_not_push x r xs (sym (ap (λ b. b && list_all (under x) xs) h) ∙ e)
    | inr h ↦ ap (λ b. b && list_all (under x) (xs ++ r ∷ [])) h
  ]

  all_last : (x r : R) (xs : List R) → under x r ≡ false → list_all (under x) (xs ++ r ∷ []) ≡ false
  all_last x r [] f = ap (λ b. b && true) f
  all_last x r (y ∷ xs) f = elim (either (under x y)) [
    | inl h ↦ ap (λ b. b && list_all (under x) (xs ++ r ∷ [])) h ∙ all_last x r xs f
    | inr h ↦ ap (λ b. b && list_all (under x) (xs ++ r ∷ [])) h
  ]

  in_last : (r : R) (xs : List R) → In r (xs ++ r ∷ [])
  in_last r [] = inl refl
  in_last r (x ∷ xs) = inr (in_last r xs)

  -- the stamp of a child is greater than its parent's
  pub grows : (rs : List R) (r : R) → Apart r rs → cmps (maxima cmp rs) (maxima cmp (rs ++ r ∷ [])) ≡ Less
  grows [] r a = refl
  grows (x ∷ xs) r a = elim (either (list_all (under x) xs)) [
    | inl e ↦ elim (either (under x r)) [
      | inl f ↦
          ap (λ s. cmps s (maxima cmp (x ∷ (xs ++ r ∷ [])))) (at_true x xs e)
          ∙ ap (λ s. cmps (x ∷ maxima cmp xs) s) (at_true x (xs ++ r ∷ []) (all_push x r xs e f))
          ∙ ap (λ c. ordering_then c (cmps (maxima cmp xs) (maxima cmp (xs ++ r ∷ [])))) (tied_itself o x)
          ∙ grows xs r a.1
      | inr f ↦
          let u = top (xs ++ r ∷ []) r (in_last r xs) in
          let up : cmp x r ≡ Less = elim (split x r) [ inl l ↦ l | inr s ↦ elim s [ inl t ↦ absurd (a.0 t) | inr g ↦ absurd (less_not _ f g) ] ] in
          ap (λ s. cmps s (maxima cmp (x ∷ (xs ++ r ∷ [])))) (at_true x xs e)
          ∙ ap (λ s. cmps (x ∷ maxima cmp xs) s) (at_false x (xs ++ r ∷ []) (all_last x r xs f) ∙ u.2)
          ∙ ap (λ c. ordering_then c (cmps (maxima cmp xs) u.1)) (past x r u.0 up u.3)
    ]
    | inr e ↦
        ap (λ s. cmps s (maxima cmp (x ∷ (xs ++ r ∷ [])))) (at_false x xs e)
        ∙ ap (λ s. cmps (maxima cmp xs) s) (at_false x (xs ++ r ∷ []) (all_not_push x r xs e))
        ∙ grows xs r a.1
  ]

  -- z not below y, and z below s: y is below s
  pub past_left : (y z s : R) → (cmp z y ≡ Less → ⊥) → cmp z s ≡ Less → cmp y s ≡ Less
  past_left y z s b a = elim (split z y) [
    | inl e ↦ absurd (b e)
    | inr r ↦ elim r [ inl e ↦ sym (o.congr z y s e) ∙ a | inr e ↦ o.trans y z s e a ]
  ]

  not_under : (x s : R) → cmp x s ≡ Less → under x s ≡ false
  not_under x s l = ap is_lt (o.antisymm s x ∙ ap ordering_reverse l)

  alone : (s : R) (ps : List R) → list_all (under s) ps ≡ true → maxima cmp (ps ++ s ∷ []) ≡ s ∷ []
  alone s [] e = refl
  alone s (x ∷ xs) e =
      let l = under_all s (x ∷ xs) e x (inl refl) in
      let f : list_all (under s) xs ≡ true = sym (ap (λ b. b && list_all (under s) xs) (ap is_lt l)) ∙ e in
      at_false x (xs ++ s ∷ []) (all_last x s xs (not_under x s l)) ∙ alone s xs f

  -- nothing in the stamp of a shape is below its own rank
  pub least_last : (xs : List R) (r q : R) → In q (maxima cmp (xs ++ r ∷ [])) → cmp q r ≡ Less → ⊥
  least_last [] r q i l = elim i [ inl s ↦ not_self r (subst (λ y. cmp y r ≡ Less) (sym s) l) | inr j ↦ absurd j ]
  least_last (x ∷ xs) r q i l = elim (either (list_all (under x) (xs ++ r ∷ []))) [
    | inl e ↦ elim (subst (In q) (at_true x (xs ++ r ∷ []) e) i) [
      | inl s ↦ not_both r x (under_all x (xs ++ r ∷ []) e r (in_last r xs)) (subst (λ y. cmp y r ≡ Less) (sym s) l)
      | inr j ↦ least_last xs r q j l
    ]
    | inr e ↦ least_last xs r q (subst (In q) (at_false x (xs ++ r ∷ []) e) i) l
  ]

  none_less : (A : List R) → cmps A [] ≡ Less → ⊥
  none_less [] e = let g : Equal ≡ Less = e in cc
  none_less (a ∷ A) e = let g : Greater ≡ Less = e in cc

  one_less : (s : R) (A : List R) → cmps [] A ≡ Less → cmps A (s ∷ []) ≡ Less → (a : R) × In a A × (cmp a s ≡ Less)
  one_less s [] e f = let g : Equal ≡ Less = e in cc
  one_less s (a ∷ A) e f = elim (cmp a s) as (λ v. cmp a s ≡ v → ordering_then v (cmps A []) ≡ Less → (b : R) × In b (a ∷ A) × (cmp b s ≡ Less)) [
    | Less ↦ λ h k. (a, inl refl, h)
    | Equal ↦ λ h k. absurd (none_less A k)
    | Greater ↦ λ h k. let g : Greater ≡ Less = k in cc
  ] refl f

  -- the same head
  both : (xs : List R) (x s : R) (A : List R) → Apart s xs
      → ((B : List R) → cmps (maxima cmp xs) B ≡ Less → cmps B (maxima cmp (xs ++ s ∷ [])) ≡ Less → (a : R) × In a B
      × (cmp a s ≡ Less))
      → cmps (x ∷ maxima cmp xs) A ≡ Less → cmps A (x ∷ maxima cmp (xs ++ s ∷ [])) ≡ Less
      → (a : R) × In a A × (cmp a s ≡ Less)
  both xs x s [] d go e f = let g : Greater ≡ Less = e in cc
  both xs x s (a ∷ A) d go e f = elim (cmp x a) as (λ v. cmp x a ≡ v → ordering_then v (cmps (maxima cmp xs) A) ≡ Less → (b : R) × In b (a ∷ A) × (cmp b s ≡ Less)) [
    | Less ↦ λ h k. let g : ordering_then Greater (cmps A (maxima cmp (xs ++ s ∷ []))) ≡ Less = sym
        (ap (λ c. ordering_then c (cmps A (maxima cmp (xs ++ s ∷ [])))) (o.antisymm a x ∙ ap ordering_reverse h)) ∙ f in cc
    | Equal ↦ λ h k. let w = go A k (sym (ap (λ c. ordering_then c (cmps A (maxima cmp (xs ++ s ∷ [])))) (o.antisymm a x ∙ ap ordering_reverse h)) ∙ f) in (w.0, inr w.1, w.2)
    | Greater ↦ λ h k. let g : Greater ≡ Less = k in cc
  ] refl e

  all_wider : (x s : R) (xs : List R) → cmp x s ≡ Less → list_all (under x) xs ≡ true → list_all (under s) xs ≡ true
  all_wider x s [] l e = refl
  all_wider x s (y ∷ xs) l e =
      let h = under_all x (y ∷ xs) e y (inl refl) in
      let f : list_all (under x) xs ≡ true = sym (ap (λ b. b && list_all (under x) xs) (ap is_lt h)) ∙ e in
      ap (λ b. b && list_all (under s) xs) (ap is_lt (o.trans y x s h l)) ∙ all_wider x s xs l f

  some_there : (M A : List R) → cmps M A ≡ Less → cmps [] A ≡ Less
  some_there M [] e = absurd (none_less M e)
  some_there M (a ∷ A) e = refl

  -- a stamp between those of a parent and its child has a rank below the child's
  pub between : (ps : List R) (s : R) (A : List R) → Apart s ps → cmps (maxima cmp ps) A ≡ Less
      → cmps A (maxima cmp (ps ++ s ∷ [])) ≡ Less → (a : R) × In a A × (cmp a s ≡ Less)
  between [] s A d e f = one_less s A e f
  between (x ∷ xs) s A d e f = elim (either (list_all (under x) xs)) [
    | inl h ↦ elim (either (under x s)) [
      | inl u ↦ both xs x s A d.1 (λ B. between xs s B d.1)
          (subst (λ m. cmps m A ≡ Less) (at_true x xs h) e)
          (subst (λ m. cmps A m ≡ Less) (at_true x (xs ++ s ∷ []) (all_push x s xs h u)) f)
      | inr u ↦
          let up : cmp x s ≡ Less = elim (split x s) [ inl l ↦ l | inr v ↦ elim v [ inl t ↦ absurd (d.0 t) | inr g ↦ absurd (less_not _ u g) ] ] in
          let whole : list_all (under s) (x ∷ xs) ≡ true = ap (λ b. b && list_all (under s) xs) (ap is_lt up) ∙ all_wider x s xs up h in
          one_less s A (some_there _ A e) (subst (λ m. cmps A m ≡ Less) (alone s (x ∷ xs) whole) f)
    ]
    | inr h ↦ between xs s A d.1 (subst (λ m. cmps m A ≡ Less) (at_false x xs h) e)
        (subst (λ m. cmps A m ≡ Less) (at_false x (xs ++ s ∷ []) (all_not_push x s xs h)) f)
  ]

  -- y waits under the parent whose ranks are ps, and x waits too: where x's stamp is smaller, so is its rank
  pub rank_below : (ps : List R) (s : R) (xs : List R) (r : R) → Apart s ps
      → cmps (maxima cmp ps) (maxima cmp (xs ++ r ∷ [])) ≡ Less
      → cmps (maxima cmp (xs ++ r ∷ [])) (maxima cmp (ps ++ s ∷ [])) ≡ Less → cmp r s ≡ Less
  rank_below ps s xs r d e f =
      let w = between ps s (maxima cmp (xs ++ r ∷ [])) d e f in
      past_left r w.0 s (least_last xs r w.0 w.1) w.2

  pub last_in : (xs : List R) (r : R) → In r (maxima cmp (xs ++ r ∷ []))
  last_in [] r = inl refl
  last_in (x ∷ xs) r = elim (either (list_all (under x) (xs ++ r ∷ []))) [
    | inl e ↦ subst (In r) (sym (at_true x (xs ++ r ∷ []) e)) (inr (last_in xs r))
    | inr e ↦ subst (In r) (sym (at_false x (xs ++ r ∷ []) e)) (last_in xs r)
  ]
