use Rattle.cga_rework.proofs.More.{derivations_rules}
use Rattle.cga_rework.proofs.laws.derivations_are_rules.Goals as goal

pub returns : goal.returns
returns g c = derivations_rules
