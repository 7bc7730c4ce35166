-- Members of lists, and lists from a place on.
use Rattle.std.proofs.Common.{◌≡◌, ℕ, zero, suc, ◌+◌, ◌≤◌, ◌⊎◌, inl, inr, List, [], ◌∷◌, ◌++◌, length, drop}
use Rattle.std.proofs.Common.{refl, ap, sym, subst, ◌∙◌, arith, get_or}
use Rattle.std.specs.List.{flat_map}
use Rattle.std.specs.Prelude.{slice_get, Some}
use Rattle.std.proofs.lemmas.List.{drop_more}
use Rattle.std.proofs.lemmas.Option.{slice_get_within, slice_get-get_or}
use Rattle.cga_index.specs.Tree.{Member}

-- a member of two lists joined is one of the first or of the second
pub in_split : (xs ys : List ℕ) (n : ℕ) → Member (xs ++ ys) n → Member xs n ⊎ Member ys n
in_split [] ys n h = inr h
in_split (x ∷ xs) ys n h = elim h [
  | inl e ↦ inl (inl e)
  | inr t ↦ elim (in_split xs ys n t) [ inl a ↦ inl (inr a) | inr b ↦ inr b ]
]

-- a member of the first list is one of both joined
pub in_left : (xs ys : List ℕ) (n : ℕ) → Member xs n → Member (xs ++ ys) n
in_left [] ys n h = absurd h
in_left (x ∷ xs) ys n h = elim h [ inl e ↦ inl e | inr t ↦ inr (in_left xs ys n t) ]

-- a member of the second list is one of both joined
pub in_right : (xs ys : List ℕ) (n : ℕ) → Member ys n → Member (xs ++ ys) n
in_right [] ys n h = h
in_right (x ∷ xs) ys n h = inr (in_right xs ys n h)

-- a member of all the lists that elements give, one after the other, is in the list of some element
pub in_some : (f : ℕ → List ℕ) (xs : List ℕ) (n : ℕ) → Member (flat_map f xs) n → (x : ℕ) × Member xs x × Member (f x) n
in_some f [] n h = absurd h
in_some f (x ∷ xs) n h = elim (in_split (f x) (flat_map f xs) n h) [
  | inl a ↦ (x, inl refl, a)
  | inr b ↦ let w = in_some f xs n b in (w.0, inr w.1, w.2)
]

-- what is in the list that an element gives is in all these lists, one after the other
pub in_flat : (f : ℕ → List ℕ) (xs : List ℕ) (x n : ℕ) → Member xs x → Member (f x) n → Member (flat_map f xs) n
in_flat f [] x n h t = absurd h
in_flat f (y ∷ ys) x n h t = elim h [
  | inl e ↦ in_left (f y) (flat_map f ys) n (subst (λ z. Member (f z) n) (sym e) t)
  | inr r ↦ in_right (f y) (flat_map f ys) n (in_flat f ys x n r t)
]

-- the element at an index is a member
pub in_at : (xs : List ℕ) (k x : ℕ) → slice_get xs k ≡ Some x → Member xs x
in_at [] k x e = cc
in_at (y ∷ ys) zero x e = inl cc
in_at (y ∷ ys) (suc k) x e = inr (in_at ys k x e)

-- from an index with an element on, a list is that element and what comes after it
pub drop_at : (xs : List ℕ) (k x : ℕ) → slice_get xs k ≡ Some x → drop k xs ≡ x ∷ drop (k + 1) xs
drop_at xs k x e =
    let w = slice_get_within xs k x e in
    let s : Some (get_or xs k x) ≡ Some x = sym (slice_get-get_or xs k x w) ∙ e in
    let t : get_or xs k x ≡ x = cc in
    drop_more xs k x w ∙ ap (λ y. y ∷ drop (k + 1) xs) t

-- where as many are dropped as a list has, or more, nothing is left
pub drop_all : (cs : List ℕ) (k : ℕ) → length cs ≤ k → drop k cs ≡ []
drop_all [] zero h = refl
drop_all [] (suc k) h = refl
drop_all (c ∷ cs) zero h = absurd (omega (arith, h))
drop_all (c ∷ cs) (suc k) h = drop_all cs k (omega (arith, h))
