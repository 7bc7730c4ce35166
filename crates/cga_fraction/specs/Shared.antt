-- What a list behind a pointer that several share holds.
use Rattle.std.specs.Prelude.{List, []}
use Rattle.std.specs.declared.option.Option.{Option}
use Rattle.std.specs.declared.option.Option.TheVariants.{None, Some}
use Rattle.std.specs.declared.rc.Rc.{Rc}
use Rattle.std.specs.declared.vec.Vec.{Vec}

-- the items behind the pointer, and none where there is no pointer
abbrev pub behind : {X Y Z : Type 0} → Option (Rc (Vec X Y) Z) → List X
behind None = []
behind (Some pointer) = pointer.value.items
