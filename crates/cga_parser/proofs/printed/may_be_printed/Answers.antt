use Rattle.cga_parser.proofs.Printable.{parsed_spells, grammar_prints}
use Rattle.cga_parser.proofs.printed.may_be_printed.Goals as goal

pub returns : goal.returns
returns c = record { rule = parsed_spells; grammar = grammar_prints }
