use Rattle.std.proofs.Common.{◌≡◌, ◌∙◌, Some, None, sym, subst, IfOk}
use Rattle.cga_form.specs.Lines.{Line}
use Rattle.cga_top.specs.Effect.{Effect}
use Rattle.cga_top.specs.Session.{IsOpen, Did}
use Rattle.cga_top.proofs.Outsides.{none_open, some_open, effect_none, effect_end, closed_at, none_at, line_did}
use Rattle.cga_top.proofs.turns.do_line.Goals as goal

pub returns-in-None-clause-did : goal.returns-in-None-clause-did
returns-in-None-clause-did g c = λ s st.
    let line : Line = record { bytes = c.args.line.now; long = c.args.long } in
    let none : c.args.session.now.block ≡ None = sym c.take.ensures.value ∙ c.in-None.is in
    let closed = none_open s.block (subst (IsOpen s.block) none st.block) in
    subst (λ (e : Effect). IfOk c.do_outside.result (λ reply. Did e c.args.session.now.city.changes c.do_outside.new.session reply c.args.expansions.now c.do_outside.new.expansions)) (sym (effect_none s line closed))
    (c.do_outside.ensures.did s (none_at s c.args.session.now c.take.new.self st closed c.take.ensures.after))

pub returns-in-Some-clause-did : goal.returns-in-Some-clause-did
returns-in-Some-clause-did g c = λ s st.
    let line : Line = record { bytes = c.args.line.now; long = c.args.long } in
    let some : c.args.session.now.block ≡ Some c.in-Some.block = sym c.take.ensures.value ∙ c.in-Some.is in
    let b = some_open s.block c.in-Some.block (subst (IsOpen s.block) some st.block) in
    subst (λ (e : Effect). IfOk c.do_end.result (λ reply. Did e c.args.session.now.city.changes c.do_end.new.session reply c.args.expansions.now c.do_end.new.expansions)) (sym (effect_end s b.0 line b.1 (sym c.ends_block.ensures.exact ∙ c.if-ends_block.true)))
    (c.do_end.ensures.did (record s { block = None }) b.0 (closed_at s c.args.session.now c.take.new.self st c.take.ensures.after) b.2)

pub returns-in_ok-line-in-Some-2-clause-did : goal.returns-in_ok-line-in-Some-2-clause-did
returns-in_ok-line-in-Some-2-clause-did g c = λ s st.
    let line : Line = record { bytes = c.args.line.now; long = c.args.long } in
    let some : c.args.session.now.block ≡ Some c.in-Some.block = sym c.take.ensures.value ∙ c.in-Some.is in
    let b = some_open s.block c.in-Some.block (subst (IsOpen s.block) some st.block) in
    line_did s c.args.session.now b.0 line c.in_ok-line-in-Some-2.field-0 c.new.result c.args.expansions.now st b.1 (sym c.ends_block.ensures.exact ∙ c.if-ends_block.false)
    ((c.in_ok-line-in-Some-2.ensures {u = tt}).open b.0 b.2) c.new.ensures
