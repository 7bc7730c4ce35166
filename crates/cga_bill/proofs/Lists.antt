-- A list taken one by one.
use Rattle.std.proofs.Common.{◌≡◌, ℕ, ◌+◌, ◌<◌, List, [], ◌∷◌, ◌++◌, length, get_or, take, drop, ◌∙◌, ap}
use Rattle.std.proofs.lemmas.List.{drop_more, take_more}
use Rattle.cga_shape.specs.declared.drawn.Drawn.{Drawn}

pub one_come : (xs : List Drawn) (i : ℕ) (d : Drawn) → i < length xs → get_or xs i d ≡ d
    → take (i + 1) xs ≡ take i xs ++ d ∷ []
one_come xs i d h at = take_more xs i d h ∙ ap (λ (x : Drawn). take i xs ++ x ∷ []) at

pub one_left : (xs : List Drawn) (i : ℕ) (d : Drawn) → i < length xs → get_or xs i d ≡ d
    → drop i xs ≡ d ∷ drop (i + 1) xs
one_left xs i d h at = drop_more xs i d h ∙ ap (λ (x : Drawn). x ∷ drop (i + 1) xs) at
