use Rattle.cga_parser.proofs.AreForms.{block_unique}
use Rattle.cga_parser.proofs.laws.spells_one_line.Goals as goal

pub returns : goal.returns
returns c = block_unique
