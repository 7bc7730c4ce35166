-- The results of a list in order, up to the first fault.
use Rattle.std.specs.Prelude.{List, [], ◌∷◌, Result, Ok}
use Rattle.cga_fraction.specs.Results.{and_then}

abbrev pub collected : {A B F : Type 0} → (A → Result B F) → List A → Result (List B) F
collected f [] = Ok []
collected f (x ∷ xs) = and_then (f x) (λ y. and_then (collected f xs) (λ ys. Ok (y ∷ ys)))
