use Rattle.std.proofs.Common.{sym, ap, ◌∙◌, ◌-◌}
use Rattle.std.proofs.lemmas.Result.{err_from_is_err_and}
use Rattle.cga_form.specs.Cursor.{input_of}
use Rattle.cga_form.specs.Reader.{many_from}
use Rattle.cga_parser.proofs.Loops.{fails, no_turn, off, on}
use Rattle.cga_parser.proofs.members.few_of.Goals as goal
use Rattle.cga_parser.proofs.members.few_of.Goals.{then-members-test+else-comes, else-members-test}

pub members-preserved : goal.members-preserved
members-preserved g c = λ test p tells reads. c.members.invariant test p tells reads
    ∙ on test p c.members.list (input_of c.members.tokens) c.members.turns c.members-test.true (sym (tells _ _ c.comes.ensures) ∙ c.if-comes.true) c.in_ok-next.next (input_of c.member.new.arg2) (reads _ _ _ c.in_ok-next.ensures)
    ∙ ap (λ l. many_from test p (c.members.turns - 1) l (input_of c.member.new.arg2)) (sym c.in_ok-push.ensures.ok)

pub returns-in_err-next : goal.returns-in_err-next
returns-in_err-next g c = λ test p tells reads.
    let e = err_from_is_err_and c.from_residual.result c.from_residual.ensures.1 in
    rw (e.1, e.2, c.members.invariant test p tells reads) (fails test p c.members.list (input_of c.members.tokens) c.members.turns c.members-test.true (sym (tells _ _ c.comes.ensures) ∙ c.if-comes.true) c.in_err-next.field-0.0 (reads _ _ _ c.in_err-next.ensures))

pub returns : goal.returns
returns g c = λ test p tells reads. c.members.invariant test p tells reads ∙ elim c.members-test.branch [
  | then-members-test+else-comes w ↦ off test p c.members.list (input_of c.members.tokens) c.members.turns w.members-test.true (sym (tells _ _ w.comes.ensures) ∙ w.if-comes.false)
  | else-members-test w ↦ no_turn test p c.members.list (input_of c.members.tokens) c.members.turns w.members-test.false
]
