-- A list without one of its members.
use Rattle.std.proofs.Common.{◌≡◌, ℕ, List, ◌∷◌, get_or, sym, subst, ◌∙◌, nat_eq, Some, eqb-true}
use Rattle.std.specs.List as holes
use Rattle.std.specs.List.{position}
use Rattle.std.specs.List.Sorted.{IsPermutation}
use Rattle.std.proofs.lemmas.List.Sorted.{IsPermutation-swap_remove}
use Rattle.std.proofs.lemmas.List.Quantifiers.{position-Some}

pub one_less : (keys xs ys : List ℕ) (i n x : ℕ) → keys ≡ xs → position (nat_eq n) keys ≡ Some i → x ≡ get_or xs i x
    → ys ≡ holes.swap_remove xs i x → IsPermutation xs (n ∷ ys)
one_less keys xs ys i n x same at is made =
    let found : position (nat_eq n) xs ≡ Some i = subst (λ l. position (nat_eq n) l ≡ Some i) same at in
    let p = position-Some (nat_eq n) xs i x found in
    let named : x ≡ n = is ∙ sym (eqb-true n (get_or xs i x) p.1) in
    subst (λ m. IsPermutation xs (m ∷ ys)) named (subst (λ l. IsPermutation xs (x ∷ l)) (sym made) (IsPermutation-swap_remove xs i x p.0 is))
