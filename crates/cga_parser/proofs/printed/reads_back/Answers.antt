use Rattle.cga_parser.proofs.ReadBack.{rule_back}
use Rattle.cga_parser.proofs.printed.reads_back.Goals as goal

pub returns : goal.returns
returns c = rule_back
