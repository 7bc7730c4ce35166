use Rattle.cga_check.proofs.Valid.{children_have_rules}
use Rattle.cga_check.proofs.laws.children_have_rules.Goals as goal

pub returns : goal.returns
returns c = children_have_rules
