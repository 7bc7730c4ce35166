use Rattle.std.proofs.Common.{subst}
use Rattle.cga_parser.specs.BlockTells.{GrammarKept}
use Rattle.cga_top.proofs.Closing.{rules_closed, rules_faulty, rules_printed}
use Rattle.cga_top.proofs.open_block.rules_edit.Goals as goal

pub returns-in-Ok-clause-told : goal.returns-in-Ok-clause-told
returns-in-Ok-clause-told c = λ lines read. rules_closed c.one_too_many_is_refused_as_all.ensures.rules lines c.in-Ok.grammar
    (subst (GrammarKept lines) c.in-Ok.is (c.in_ok-grammar.ensures lines read))

pub returns-in-Err-clause-told : goal.returns-in-Err-clause-told
returns-in-Err-clause-told c = λ lines read. rules_faulty lines c.in-Err.fault
    (subst (GrammarKept lines) c.in-Err.is (c.in_ok-grammar.ensures lines read))

pub returns-in-Ok-clause-written : goal.returns-in-Ok-clause-written
returns-in-Ok-clause-written c = rules_printed c.requires.0 c.in-Ok.grammar
    (subst (GrammarKept c.requires.0) c.in-Ok.is (c.in_ok-grammar.ensures c.requires.0 c.requires.1))
