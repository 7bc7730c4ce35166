-- Lists with a token between their members.
use Rattle.std.proofs.Common.{◌≡◌, List, [], ◌∷◌, ◌++◌, map, refl, ap}
use Rattle.cga_syntax.specs.Pieces.{Piece, Pieces, concat, after_each, separated, preceded}

pub after_map : {A : Type 0} (p : Piece) (w : A → Pieces) (xs : List A)
    → after_each p (map w xs) ≡ concat (map (λ a. p ∷ w a) xs)
after_map p w [] = refl
after_map p w (x ∷ xs) = ap (λ z. p ∷ (w x ++ z)) (after_map p w xs)

pub separated_is : {A : Type 0} (p : Piece) (w : A → Pieces) (x : A) (xs : List A) (end : Pieces)
    → separated p (map w (x ∷ xs)) end ≡ w x ++ (concat (map (λ a. p ∷ w a) xs) ++ end)
separated_is p w x xs end = ap (λ z. w x ++ (z ++ end)) (after_map p w xs)

pub preceded_is : {A : Type 0} (p : Piece) (w : A → Pieces) (x : A) (xs : List A) (end : Pieces)
    → preceded p (map w (x ∷ xs)) end ≡ p ∷ (w x ++ (concat (map (λ a. p ∷ w a) xs) ++ end))
preceded_is p w x xs end = ap (λ z. p ∷ (w x ++ (z ++ end))) (after_map p w xs)
