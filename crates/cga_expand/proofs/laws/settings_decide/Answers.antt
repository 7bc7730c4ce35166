use Rattle.cga_expand.proofs.ReadsRules.{settings_decide}
use Rattle.cga_expand.proofs.laws.settings_decide.Goals as goal

pub returns : goal.returns
returns c = settings_decide
