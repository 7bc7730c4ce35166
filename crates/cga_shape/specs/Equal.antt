-- `==` of shapes by a name for clauses, and what it tells.
use Rattle.std.specs.Prelude.{◌≡◌, ◌↔◌, Bool, true}
use Rattle.cga_shape.specs.declared.shape.Shape.{Shape}
use Rattle.cga_shape.specs.contracts.shape.ShapePartialEq.TheImpl as shape

abbrev pub same_shape : Shape → Shape → Bool
same_shape = (shape.ghosts).eq

-- it tells exactly whether the two are equal
abbrev pub EqualExactly : Type 0
EqualExactly = (a b : Shape) → (same_shape a b ≡ true) ↔ (a ≡ b)
