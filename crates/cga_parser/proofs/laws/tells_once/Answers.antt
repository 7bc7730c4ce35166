use Rattle.cga_syntax.specs.Pieces.{rule_pieces}
use Rattle.cga_form.proofs.Door.{once_block, once_line, once_lines}
use Rattle.cga_parser.specs.Blocks.{block_pieces}
use Rattle.cga_parser.specs.BlockTells.{grammar_of}
use Rattle.cga_parser.proofs.AreForms.{rule_unique, block_unique}
use Rattle.cga_parser.proofs.laws.tells_once.Goals as goal

pub returns-clause-rule : goal.returns-clause-rule
returns-clause-rule c = once_line rule_pieces rule_unique

pub returns-clause-line : goal.returns-clause-line
returns-clause-line c = once_block block_pieces block_unique

pub returns-clause-lines : goal.returns-clause-lines
returns-clause-lines c = once_lines block_pieces block_unique grammar_of
