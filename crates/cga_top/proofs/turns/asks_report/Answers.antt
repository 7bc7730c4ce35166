use Rattle.std.proofs.Common.{◌∙◌, sym, subst}
use Rattle.cga_form.specs.Lines.{Line}
use Rattle.cga_top.specs.Session.{IsOpen}
use Rattle.cga_top.proofs.Outsides.{none_open}
use Rattle.cga_top.proofs.Reporting.{asks, none_there, some_weaker}
use Rattle.cga_top.proofs.turns.asks_report.Goals as goal

pub returns : goal.returns
returns c = λ s at.
    let line : Line = record { bytes = c.args.line.now; long = c.args.long } in
    let none = none_there c.args.session.now.block (sym c.is_some.ensures ∙ c.if-is_some.false) in
    let closed = none_open s.block (subst (IsOpen s.block) none at.block) in
    some_weaker c.report_asked.result _ _ (λ a is. asks s line c.in_ok-is_second.field-0 c.args.session.now.version c.in_ok-told.told a.0 a.1 closed (c.in_ok-is_second.ensures {u = tt} s at) c.if-branch.false at.version (c.in_ok-told.ensures {u = tt}) is) c.report_asked.ensures
