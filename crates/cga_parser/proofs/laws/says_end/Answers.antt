use Rattle.cga_parser.proofs.Ends.{end_said}
use Rattle.cga_parser.proofs.laws.says_end.Goals as goal

pub returns : goal.returns
returns c = end_said
