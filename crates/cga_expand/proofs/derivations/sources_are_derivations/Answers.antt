use Rattle.cga_expand.proofs.Instance as instance
use Rattle.cga_expand.proofs.derivations.sources_are_derivations.Goals as goal

pub returns : goal.returns
returns c = instance.sources_are_derivations
