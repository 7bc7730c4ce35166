use Rattle.std.proofs.Common.{sym, ◌∙◌}
use Rattle.cga_trace.proofs.Again.{number_some, number_none, fault_some, fault_none}
use Rattle.cga_trace.proofs.reading.read_outcome.Goals as goal

pub returns-in-Some-clause-again : goal.returns-in-Some-clause-again
returns-in-Some-clause-again c = λ o few is. number_some c.args.word.now o c.read_number.result c.read_number.ensures.again (sym c.begins_digit.ensures ∙ c.if-begins_digit.true) few is c.in-Some.number c.in-Some.is

pub returns-in-None-clause-again : goal.returns-in-None-clause-again
returns-in-None-clause-again c = λ o few is. number_none c.args.word.now o c.read_number.result c.read_number.ensures.again (sym c.begins_digit.ensures ∙ c.if-begins_digit.true) few is c.in-None.is

pub returns-in-Some-read_fault-clause-again : goal.returns-in-Some-read_fault-clause-again
returns-in-Some-read_fault-clause-again c = λ o few is. fault_some c.args.word.now o c.read_fault.result c.read_fault.ensures (sym c.begins_digit.ensures ∙ c.if-begins_digit.false) few is c.in-Some-read_fault.fault c.in-Some-read_fault.is

pub returns-in-None-read_fault-clause-again : goal.returns-in-None-read_fault-clause-again
returns-in-None-read_fault-clause-again c = λ o few is. fault_none c.args.word.now o c.read_fault.result c.read_fault.ensures (sym c.begins_digit.ensures ∙ c.if-begins_digit.false) few is c.in-None-read_fault.is
