use Rattle.cga_derivation.proofs.Unique.{unique}
use Rattle.cga_derivation.proofs.laws.consistent_is_derived.Goals as goal

pub returns : goal.returns
returns g c = unique
