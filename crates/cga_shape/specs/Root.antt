-- The root shape of a lot.
use Rattle.std.specs.Prelude.{[], Result, Ok, Err}
use Rattle.cga_fraction.specs.Rat.{zero_rat}
use Rattle.cga_frame.specs.Axes.{base_frame}
use Rattle.cga_frame.specs.Scope.{Scope, scope_of}
use Rattle.cga_frame.specs.declared.scope_fault.ScopeFault.{ScopeFault}
use Rattle.cga_shape.specs.declared.lot.Lot.{Lot}
use Rattle.cga_shape.specs.declared.shape.Shape.{Shape}

-- the lot's ground along the world's axes, where that is a scope
abbrev pub root_scope : Lot → Result Scope ScopeFault
root_scope lot = scope_of (record { x = lot.x; y = zero_rat; z = lot.z }) base_frame (record { x = lot.width; y = zero_rat; z = lot.depth })

-- the shape of a lot's symbol and seed in a scope
abbrev pub root_in : Lot → Scope → Shape
root_in lot scope = record { lot = lot.name; path = []; symbol = lot.symbol; args = []; scope = scope; seed = lot.seed }

-- the root of a lot, where its scope exists
abbrev pub root_of : Lot → Result Shape ScopeFault
root_of lot = with_scope (root_scope lot)
  where
    with_scope : Result Scope ScopeFault → Result Shape ScopeFault
    with_scope (Ok scope) = Ok (root_in lot scope)
    with_scope (Err fault) = Err fault
