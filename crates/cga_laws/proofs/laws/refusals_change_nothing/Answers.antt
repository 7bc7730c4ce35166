use Rattle.cga_laws.proofs.Refusing.{refusals_change_nothing as law}
use Rattle.cga_laws.proofs.laws.refusals_change_nothing.Goals as goal

pub returns : goal.returns
returns c = law
