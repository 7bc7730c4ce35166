use Rattle.cga_parser.proofs.AreForms.{rule_unique}
use Rattle.cga_parser.proofs.laws.spells_one.Goals as goal

pub returns : goal.returns
returns c = rule_unique
