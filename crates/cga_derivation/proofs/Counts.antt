-- How many members are expanded.
use Rattle.std.proofs.Common.{◌≡◌, ℕ, zero, suc, ◌+◌, ◌<◌, ◌≤◌, List, [], ◌∷◌, ◌++◌, length, map, true, cond, not, refl, sym, ap, ◌∙◌, inl, inr, Some, arith}
use Rattle.std.specs.Prelude.{slice_get, slice_set, count_by}
use Rattle.std.proofs.lemmas.List.Sums.{sum_by-append, sum_by-cons}
use Rattle.cga_order.specs.declared.placed.Placed.{Placed}
use Rattle.cga_order.specs.declared.placed.Kind.{Kind}
use Rattle.cga_order.specs.declared.placed.Kind.TheVariants.{Waiting, Done, Faulted, Instance}
use Rattle.cga_order.specs.World.{Has, is_instance, IsNew}
use Rattle.cga_derivation.proofs.Lists.{some_same, none_some}
use Rattle.cga_derivation.specs.Derivation.{Derivation}
use Rattle.cga_derivation.specs.Turns.{is_expanded, expanded_in}

abbrev one : {F P : Type 0} → Kind F P → ℕ
one k = cond (is_expanded k) 1 0

one-bound : {F P : Type 0} (k : Kind F P) → one k ≤ 1
one-bound Waiting = omega arith
one-bound Done = omega arith
one-bound (Faulted f) = omega arith
one-bound (Instance p) = omega arith

-- where all members wait, none is expanded
pub expanded-waiting : {N : Type 0} (F P : Type 0) (rs : List N)
    → expanded_in {F = F} {P = P} (map (λ n. record { shape = n; kind = Waiting }) rs) ≡ 0
expanded-waiting F P [] = refl
expanded-waiting F P (r ∷ rs) = expanded-waiting F P rs

module _ {N F P : Type 0} where
  pub expanded-cons : (x : Placed N F P) (xs : List (Placed N F P)) → expanded_in (x ∷ xs) ≡ one x.kind + expanded_in xs
  expanded-cons x xs = sum_by-cons (λ (m : Placed N F P). one m.kind) x xs

  expanded-bound : (xs : List (Placed N F P)) → expanded_in xs ≤ length xs
  expanded-bound [] = omega arith
  expanded-bound (x ∷ xs) = let a = expanded-bound xs in let b = one-bound x.kind in let c = expanded-cons x xs in omega (arith, a, b, c)

  -- a member that waits is not counted
  pub expanded-below : (xs : List (Placed N F P)) (i : ℕ) (m : Placed N F P) → slice_get xs i ≡ Some m
      → m.kind ≡ Waiting → expanded_in xs < length xs
  expanded-below [] i m e w = none_some m e
  expanded-below (x ∷ xs) zero m e w =
      let a = expanded-bound xs in
      let none : one x.kind ≡ 0 = ap (λ (y : Placed N F P). one y.kind) (some_same x m e) ∙ ap one w in
      let c = expanded-cons x xs in
      omega (arith, a, none, c)
  expanded-below (x ∷ xs) (suc i) m e w =
      let a = expanded-below xs i m e w in
      let b = one-bound x.kind in
      let c = expanded-cons x xs in
      omega (arith, a, b, c)

  -- one more is expanded
  pub expanded-set : (xs : List (Placed N F P)) (i : ℕ) (m n : Placed N F P) → slice_get xs i ≡ Some m
      → m.kind ≡ Waiting → is_expanded n.kind ≡ true → expanded_in (slice_set xs i n) ≡ expanded_in xs + 1
  expanded-set [] i m n e w x = none_some m e
  expanded-set (x ∷ xs) zero m n e w d =
      let none : one x.kind ≡ 0 = ap (λ (y : Placed N F P). one y.kind) (some_same x m e) ∙ ap one w in
      let now : one n.kind ≡ 1 = ap (λ b. cond b 1 0) d in
      let c = expanded-cons x xs in
      let d' = expanded-cons n xs in
      omega (arith, none, now, c, d')
  expanded-set (x ∷ xs) (suc i) m n e w d = let a = expanded-set xs i m n e w d in let c = expanded-cons x xs in let b = expanded-cons x (slice_set xs i n) in omega (arith, a, b, c)

  pub expanded-append : (xs ys : List (Placed N F P)) → expanded_in (xs ++ ys) ≡ expanded_in xs + expanded_in ys
  expanded-append xs ys = sum_by-append (λ m. one m.kind) xs ys

  -- where nothing waits, what is no instance is expanded
  pub expanded-settled : (xs : List (Placed N F P)) → ((n : N) → Has xs n Waiting → ⊥)
      → expanded_in xs ≡ count_by (λ m. not (is_instance m.kind)) xs
  expanded-settled [] h = refl
  expanded-settled (x ∷ xs) h =
      let rest = expanded-settled xs (λ n g. h n (inr g)) in
      let here : one x.kind ≡ cond (not (is_instance x.kind)) 1 0 = at x.kind (λ w. h x.shape (inl (refl, w))) in
      expanded-cons x xs ∙ ((λ i. here i + rest i) ∙ sym (sum_by-cons (λ (m : Placed N F P). cond (not (is_instance m.kind)) 1 0) x xs))
    where
      at : (k : Kind F P) → (k ≡ Waiting → ⊥) → one k ≡ cond (not (is_instance k)) 1 0
      at Waiting g = absurd (g refl)
      at Done g = refl
      at (Faulted f) g = refl
      at (Instance p) g = refl

module _ {N A F P : Type 0} (derivation : Derivation N A F P) where
  -- new members are not expanded
  pub expanded-new : (xs : List (Placed N F P)) → ((i : ℕ) (c : Placed N F P) → slice_get xs i ≡ Some c → IsNew c.kind)
      → expanded_in xs ≡ 0
  expanded-new [] h = refl
  expanded-new (x ∷ xs) h =
      let rest = expanded-new xs (λ i c e. h (suc i) c e) in
      let here : one x.kind ≡ 0 = at x.kind (h 0 x refl) in
      let c = expanded-cons x xs in
      omega (arith, rest, here, c)
    where
      at : (k : Kind F P) → IsNew k → one k ≡ 0
      at k new = elim new [ inl w ↦ ap one w | inr p ↦ ap one p.1 ]
