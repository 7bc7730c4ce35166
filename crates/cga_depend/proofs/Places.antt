-- Lists from a place on, as a loop reads them.
use Rattle.std.proofs.Common.{◌≡◌, ℕ, ◌+◌, ◌<◌, ◌≤◌, List, [], ◌∷◌, length, drop, get_or, sym, ap, subst, ◌∙◌}
use Rattle.std.proofs.lemmas.List.{at_drop_more, at_drop_all}

-- the loop reads ys, which is xs
module _ {X : Type 0} (xs ys : List X) (same : ys ≡ xs) (i : ℕ) where
  -- from a place within the list on, the list is the element there and the rest
  pub drop_at : (x : X) → i < length ys → x ≡ get_or ys i x → drop i xs ≡ x ∷ drop (i + 1) xs
  drop_at x lt at = subst (λ zs. drop i zs ≡ x ∷ drop (i + 1) zs) same (at_drop_more (λ zs. zs) ys i x lt ∙ ap (λ m. m ∷ drop (i + 1) ys) (sym at))

  -- from the end on there is nothing
  pub drop_end : length ys ≤ i → drop i xs ≡ []
  drop_end le = subst (λ zs. drop i zs ≡ []) same (at_drop_all (λ zs. zs) ys i le)
