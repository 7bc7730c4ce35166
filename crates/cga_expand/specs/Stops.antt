-- What a call that changes a state, and may stop, says of the definition's result.
use Rattle.std.specs.Prelude.{◌≡◌, Result, Ok, MatchResult}
use Rattle.cga_fraction.specs.Stops.{StopsAs}
use Rattle.cga_fraction.specs.declared.stop.Stop.{Stop}
use Rattle.cga_shape.specs.declared.shape_fault.ShapeFault.{ShapeFault}
use Rattle.cga_expand.specs.declared.progress.Progress.{Progress}

-- the new state is what the definition gives, or the fault is
abbrev pub Gives : Result Progress ShapeFault → Progress → Result (Unit {0}) (Stop ShapeFault) → Type 0
Gives r new result = MatchResult result (λ u. r ≡ Ok new) (λ stop. StopsAs stop r)
