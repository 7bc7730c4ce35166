-- Lists from a place on, as a loop reads them.
use Rattle.std.proofs.Common.{◌≡◌, ℕ, ◌+◌, ◌<◌, ◌≤◌, List, [], ◌∷◌, length, drop, get_or, sym, ap, subst, ◌∙◌, Some, slice_get}
use Rattle.std.proofs.lemmas.List.{at_drop_more, at_drop_all}
use Rattle.std.proofs.lemmas.Option.{slice_get-get_or}

-- the loop reads ys, which is xs
module _ {X : Type 0} (xs ys : List X) (same : ys ≡ xs) (i : ℕ) where
  pub drop_at : (x : X) → i < length ys → x ≡ get_or ys i x → drop i xs ≡ x ∷ drop (i + 1) xs
  drop_at x lt at = subst (λ zs. drop i zs ≡ x ∷ drop (i + 1) zs) same (at_drop_more (λ zs. zs) ys i x lt ∙ ap (λ m. m ∷ drop (i + 1) ys) (sym at))

  pub item_at : (x : X) → i < length ys → x ≡ get_or ys i x → slice_get xs i ≡ Some x
  item_at x lt at = subst (λ zs. slice_get zs i ≡ Some x) same (slice_get-get_or ys i x lt ∙ ap Some (sym at))

  pub drop_end : length ys ≤ i → drop i xs ≡ []
  drop_end le = subst (λ zs. drop i zs ≡ []) same (at_drop_all (λ zs. zs) ys i le)
