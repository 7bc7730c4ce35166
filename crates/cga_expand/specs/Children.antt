-- Emitted children as members of a configuration.
use Rattle.std.specs.Prelude.{ℕ, suc, List, [], ◌∷◌, ◌++◌, Result, Ok, Err}
use Rattle.cga_word.specs.declared.primitive.Primitive.{Primitive}
use Rattle.cga_order.specs.declared.placed.Placed.{Placed}
use Rattle.cga_order.specs.declared.placed.Kind.TheVariants.{Waiting, Instance}
use Rattle.cga_shape.specs.declared.emitted.Emitted.{Emitted}
use Rattle.cga_shape.specs.declared.emitted.Emitted.TheVariants.{Child, Solid}
use Rattle.cga_shape.specs.declared.shape.Shape.{Shape}
use Rattle.cga_shape.specs.declared.shape_fault.ShapeFault.{ShapeFault}

abbrev pub Member : Type 0
Member = Placed Shape ShapeFault Primitive

-- child i of a shape of this lot, path and symbol: a symbol waits, and a solid is an instance, which
-- has the symbol of the shape
abbrev pub placed_at : List ℕ → List ℕ → List ℕ → ℕ → Emitted → Member
placed_at lot path own i (Child symbol args scope seed) = record {
  shape = record { lot = lot; path = path ++ i ∷ []; symbol = symbol; args = args; scope = scope; seed = seed };
  kind = Waiting;
}
placed_at lot path own i (Solid primitive scope seed) = record {
  shape = record { lot = lot; path = path ++ i ∷ []; symbol = own; args = []; scope = scope; seed = seed };
  kind = Instance primitive;
}

-- children from index i on
abbrev pub placed_from : List ℕ → List ℕ → List ℕ → ℕ → List Emitted → List Member
placed_from lot path own i [] = []
placed_from lot path own i (e ∷ es) = placed_at lot path own i e ∷ placed_from lot path own (suc i) es

-- the children of a shape, or its fault
abbrev pub placed_by : Shape → Result (List Emitted) ShapeFault → Result (List Member) ShapeFault
placed_by s (Ok emitted) = Ok (placed_from s.lot s.path s.symbol 0 emitted)
placed_by s (Err fault) = Err fault
