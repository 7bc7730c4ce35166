use Rattle.cga_parser.proofs.GrammarBack.{spelled, grammar_back}
use Rattle.cga_parser.proofs.printed.grammar_reads_back.Goals as goal

pub returns : goal.returns
returns c = record { spelled = spelled; back = grammar_back }
