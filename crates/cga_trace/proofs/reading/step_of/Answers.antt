use Rattle.std.proofs.Common.{Some, sym, ap, ◌∙◌}
use Rattle.cga_word.specs.Name.{name_of}
use Rattle.cga_trace.specs.Words.{read_answer}
use Rattle.cga_trace.proofs.Again.{answer_again, none_not, some_value}
use Rattle.cga_trace.proofs.Parts.{name_again}
use Rattle.cga_trace.proofs.reading.step_of.Goals as goal

pub returns-in_err-read_answer-clause-again : goal.returns-in_err-read_answer-clause-again
returns-in_err-read_answer-clause-again c = λ s is at w.
    absurd (none_not s.answers.noparent (sym c.in_err-read_answer.was ∙ (c.read_answer.ensures ∙ (ap read_answer w.noparent ∙ answer_again s.answers.noparent))))

pub returns-in_err-read_answer-2-clause-again : goal.returns-in_err-read_answer-2-clause-again
returns-in_err-read_answer-2-clause-again c = λ s is at w.
    absurd (none_not s.answers.active (sym c.in_err-read_answer-2.was ∙ (c.read_answer-2.ensures ∙ (ap read_answer w.active ∙ answer_again s.answers.active))))

pub returns-clause-again : goal.returns-clause-again
returns-clause-again c = λ s is at w.
    let lot = some_value c.in_ok-read.field-0 s.lot (sym c.in_ok-read.was ∙ (c.read.ensures ∙ (ap name_of w.lot ∙ name_again s.lot is.lot))) in
    let symbol = some_value c.in_ok-read-2.field-0 s.symbol (sym c.in_ok-read-2.was ∙ (c.read-2.ensures ∙ (ap name_of w.symbol ∙ name_again s.symbol is.symbol))) in
    let noparent = some_value c.in_ok-read_answer.field-0 s.answers.noparent (sym c.in_ok-read_answer.was ∙ (c.read_answer.ensures ∙ (ap read_answer w.noparent ∙ answer_again s.answers.noparent))) in
    let active = some_value c.in_ok-read_answer-2.field-0 s.answers.active (sym c.in_ok-read_answer-2.was ∙ (c.read_answer-2.ensures ∙ (ap read_answer w.active ∙ answer_again s.answers.active))) in
    let outcome = some_value c.in_ok-read_outcome.field-0 s.outcome (sym c.in_ok-read_outcome.was ∙ c.read_outcome.ensures.again s.outcome is.outcome w.outcome) in
    λ i. Some (record { lot = lot i; path = (c.path.view_is ∙ at) i; symbol = symbol i; answers = record { noparent = noparent i; active = active i }; outcome = outcome i })
