-- Lists in which each element stands once.
use Rattle.std.specs.Prelude.{List, [], ◌∷◌}
use Rattle.cga_order.specs.World.{Among}

abbrev pub Once : {X : Type 0} → List X → Type 0
Once [] = Unit {0}
Once (x ∷ xs) = (Among x xs → ⊥) × Once xs
