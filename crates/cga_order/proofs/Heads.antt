-- The first of the maxima, and maxima that got one more in front.
use Rattle.std.proofs.Common.{◌≡◌, List, [], ◌∷◌, Bool, true, refl, sym, ap, ◌∙◌, subst, ◌⊎◌, inl, inr, ◌&&◌}
use Rattle.std.specs.declared.cmp.Ordering.{Ordering}
use Rattle.std.specs.declared.cmp.Ordering.TheVariants.{Less, Equal, Greater}
use Rattle.std.specs.Ordering.{is_lt, ordering_then}
use Rattle.std.specs.Cmp.{IsTotalOrder}
use Rattle.std.specs.Cmp.Lexicographic.{slice_cmp}
use Rattle.std.specs.List.{list_all}
use Rattle.cga_order.specs.Stamp.{maxima}
use Rattle.cga_order.proofs.Maxima.{either}
use Rattle.cga_order.proofs.Maxima as lists

module _ {R : Type 0} (cmp : R → R → Ordering) (o : IsTotalOrder cmp) where
  abbrev under : R → R → Bool
  under = lists.under cmp o

  abbrev In : R → List R → Type 0
  In = lists.In cmp o

  abbrev cmps : List R → List R → Ordering
  cmps = slice_cmp cmp

  all_under : (r : R) (rs : List R) → ((q : R) → In q rs → cmp q r ≡ Less) → list_all (under r) rs ≡ true
  all_under r [] h = refl
  all_under r (x ∷ xs) h = ap (λ b. b && list_all (under r) xs) (ap is_lt (h x (inl refl))) ∙ all_under r xs (λ q i. h q (inr i))

  pub in_maxima : (q : R) (rs : List R) → In q (maxima cmp rs) → In q rs
  in_maxima q [] i = absurd i
  in_maxima q (x ∷ xs) i = elim (either (list_all (under x) xs)) [
    | inl e ↦ elim (subst (In q) (lists.at_true cmp o x xs e) i) [ inl s ↦ inl s | inr j ↦ inr (in_maxima q xs j) ]
    | inr e ↦ inr (in_maxima q xs (subst (In q) (lists.at_false cmp o x xs e) i))
  ]

  same_head : (a b : R) (xs ys : List R) → ◌≡◌ {A = List R} (a ∷ xs) (b ∷ ys) → a ≡ b
  same_head a b xs ys e = cc

  -- an element that is greater than all others is the first
  pub maxima-first : (r : R) (rs : List R) → ((q : R) → In q rs → cmp q r ≡ Less)
      → maxima cmp (r ∷ rs) ≡ r ∷ maxima cmp rs
  maxima-first r rs h = lists.at_true cmp o r rs (all_under r rs h)

  -- and so is one that is greater than the greatest
  pub maxima-over : (r : R) (rs : List R) (h : R) (t : List R) → maxima cmp rs ≡ h ∷ t → cmp h r ≡ Less
      → maxima cmp (r ∷ rs) ≡ r ∷ maxima cmp rs
  maxima-over r rs h t e l = maxima-first r rs (λ q i.
      let u = lists.top cmp o rs q i in
      let head = same_head u.0 h u.1 t (sym u.2 ∙ e) in
      lists.past_left cmp o q h r (subst (λ x. cmp x q ≡ Less → ⊥) head u.3) l)

  -- an element that is smaller than the greatest one is none
  pub maxima-under : (r : R) (rs : List R) (h : R) (t : List R) → maxima cmp rs ≡ h ∷ t → cmp r h ≡ Less
      → maxima cmp (r ∷ rs) ≡ maxima cmp rs
  maxima-under r rs h t e l = elim (either (list_all (under r) rs)) [
    | inl all ↦ absurd (lists.not_both cmp o r h l (lists.under_all cmp o r rs all h (in_maxima h rs (subst (In h) (sym e) (inl refl)))))
    | inr some ↦ lists.at_false cmp o r rs some
  ]

  -- the first elements compared, where none is the least
  abbrev pub heads_cmp : List R → List R → Ordering
  heads_cmp [] [] = Equal
  heads_cmp [] (y ∷ ys) = Less
  heads_cmp (x ∷ xs) [] = Greater
  heads_cmp (x ∷ xs) (y ∷ ys) = cmp x y

  then_itself : (a b : Ordering) → ordering_then a b ≡ ordering_then a (ordering_then a b)
  then_itself Less b = refl
  then_itself Equal b = refl
  then_itself Greater b = refl

  then_other : (a b c : Ordering) → (a ≡ Equal → ⊥) → ordering_then a b ≡ ordering_then a c
  then_other Less b c h = refl
  then_other Equal b c h = absurd (h refl)
  then_other Greater b c h = refl

  -- the list with x in front, or the list itself
  abbrev pub Extends : R → List R → List R → Type 0
  Extends x xs ys = (ys ≡ x ∷ xs) ⊎ (ys ≡ xs)

  pub Extends-maxima : (x : R) (xs : List R) → Extends x (maxima cmp xs) (maxima cmp (x ∷ xs))
  Extends-maxima x xs = elim (either (list_all (under x) xs)) [ inl e ↦ inl (lists.at_true cmp o x xs e) | inr e ↦ inr (lists.at_false cmp o x xs e) ]

  -- x ties with no element
  abbrev pub TiesNone : R → List R → Type 0
  TiesNone x ys = (y : R) → In y ys → (cmp x y ≡ Equal → ⊥) × (cmp y x ≡ Equal → ⊥)

  -- two lists that grew at their fronts, compared by their new first elements and then as they were
  pub cmps-extended : (x y : R) (xs ys xs' ys' : List R) → Extends x xs xs' → Extends y ys ys' → TiesNone x ys
      → TiesNone y xs → cmps xs' ys' ≡ ordering_then (heads_cmp xs' ys') (cmps xs ys)
  cmps-extended x y xs ys xs' ys' left right apart_x apart_y = elim left [
    | inl e ↦ elim right [
      | inl f ↦ both_at (x ∷ xs) (y ∷ ys) xs' ys' xs ys e f refl
      | inr f ↦ both_at (x ∷ xs) ys xs' ys' xs ys e f (grown_left x xs ys apart_x)
    ]
    | inr e ↦ elim right [
      | inl f ↦ both_at xs (y ∷ ys) xs' ys' xs ys e f (grown_right y xs ys apart_y)
      | inr f ↦ both_at xs ys xs' ys' xs ys e f (as_were xs ys)
    ]
  ]
    where
      both_at : (us vs us' vs' xs ys : List R) → us' ≡ us → vs' ≡ vs
          → cmps us vs ≡ ordering_then (heads_cmp us vs) (cmps xs ys)
          → cmps us' vs' ≡ ordering_then (heads_cmp us' vs') (cmps xs ys)
      both_at us vs us' vs' xs ys e f h = subst (λ u. cmps u vs' ≡ ordering_then (heads_cmp u vs') (cmps xs ys))
          (sym e) (subst (λ v. cmps us v ≡ ordering_then (heads_cmp us v) (cmps xs ys)) (sym f) h)

      grown_left : (x : R) (xs ys : List R) → TiesNone x ys
          → cmps (x ∷ xs) ys ≡ ordering_then (heads_cmp (x ∷ xs) ys) (cmps xs ys)
      grown_left x xs [] h = refl
      grown_left x xs (y ∷ ys) h = then_other (cmp x y) (cmps xs ys) (cmps xs (y ∷ ys)) (h y (inl refl)).0

      grown_right : (y : R) (xs ys : List R) → TiesNone y xs
          → cmps xs (y ∷ ys) ≡ ordering_then (heads_cmp xs (y ∷ ys)) (cmps xs ys)
      grown_right y [] ys h = refl
      grown_right y (x ∷ xs) ys h = then_other (cmp x y) (cmps xs ys) (cmps (x ∷ xs) ys) (h x (inl refl)).1

      as_were : (xs ys : List R) → cmps xs ys ≡ ordering_then (heads_cmp xs ys) (cmps xs ys)
      as_were [] [] = refl
      as_were [] (y ∷ ys) = refl
      as_were (x ∷ xs) [] = refl
      as_were (x ∷ xs) (y ∷ ys) = then_itself (cmp x y) (cmps xs ys)
