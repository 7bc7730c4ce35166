use Rattle.std.proofs.Common.{sym, subst, IfOk}
use Rattle.cga_form.specs.Lines.{Line}
use Rattle.cga_top.specs.Effect.{Effect}
use Rattle.cga_top.specs.Session.{Did}
use Rattle.cga_top.proofs.Outsides.{outside_asked, command_written}
use Rattle.cga_top.proofs.turns.do_outside.Goals as goal

pub do_asked-requires-clause-written : goal.do_asked-requires-clause-written
do_asked-requires-clause-written g c = command_written c.args.session.now.version (record { bytes = c.args.line.now; long = c.args.long }) c.in_ok-told.told (c.in_ok-told.ensures {u = tt})

pub returns-clause-did : goal.returns-clause-did
returns-clause-did g c = λ s st.
    let line : Line = record { bytes = c.args.line.now; long = c.args.long } in
    let is = outside_asked s line c.in_ok-is_second.field-0 c.args.session.now.version c.in_ok-told.told (c.in_ok-is_second.ensures {u = tt} s st) c.if-branch.false st.version (c.in_ok-told.ensures {u = tt}) in
    subst (λ (e : Effect). IfOk c.do_asked.result (λ reply. Did e c.args.session.now.city.changes c.do_asked.new.session reply c.args.expansions.now c.do_asked.new.expansions)) (sym is) (c.do_asked.ensures.did s st)
