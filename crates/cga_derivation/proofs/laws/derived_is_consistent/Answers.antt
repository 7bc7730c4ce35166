use Rattle.cga_derivation.proofs.Derived.{derived_consistent}
use Rattle.cga_derivation.proofs.laws.derived_is_consistent.Goals as goal

pub returns : goal.returns
returns g c = derived_consistent
