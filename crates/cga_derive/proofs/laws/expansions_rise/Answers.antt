use Rattle.cga_derivation.proofs.Door.{rises}
use Rattle.cga_expand.proofs.Door.{sources_are_derivations}
use Rattle.cga_expand.specs.Derivation.{derivation_of}
use Rattle.cga_derive.proofs.laws.expansions_rise.Goals as goal

pub returns : goal.returns
returns c = λ sources differ n. rises (derivation_of sources) (sources_are_derivations sources differ) n
