use Rattle.std.proofs.Common.{List, ℕ, subst, sym}
use Rattle.std.specs.Io.KnownBytes.{Appends}
use Rattle.std.specs.Prelude.{OnErr, OnOk}
use Rattle.cga_top.specs.Prefixes.{AppendsSome}
use Rattle.cga_top.specs.Reported.{reported_of}
use Rattle.cga_top.specs.declared.report.Report.{Report}
use Rattle.cga_top.proofs.Reporting.{text_at}
use Rattle.cga_top.proofs.report.write_of.Goals as goal

pub returns-in-Print-clause-ok : goal.returns-in-Print-clause-ok
returns-in-Print-clause-ok g c = λ s at.
    subst (λ (r : Report). OnOk c.write_text.result (Appends (g.K.Sink.held c.args.out.now) (g.K.Sink.held c.write_text.new.out) (reported_of s r c.args.lots.now).reply)) (sym c.in-Print.is)
    (subst (λ (t : List ℕ). OnOk c.write_text.result (Appends (g.K.Sink.held c.args.out.now) (g.K.Sink.held c.write_text.new.out) t)) (text_at s c.args.session.now at c.args.lots.now) c.write_text.ensures.ok)

pub returns-in-Print-clause-err : goal.returns-in-Print-clause-err
returns-in-Print-clause-err g c = λ s at.
    subst (λ (r : Report). OnErr c.write_text.result (AppendsSome (g.K.Sink.held c.args.out.now) (g.K.Sink.held c.write_text.new.out) (reported_of s r c.args.lots.now).reply)) (sym c.in-Print.is)
    (subst (λ (t : List ℕ). OnErr c.write_text.result (AppendsSome (g.K.Sink.held c.args.out.now) (g.K.Sink.held c.write_text.new.out) t)) (text_at s c.args.session.now at c.args.lots.now) c.write_text.ensures.err)

pub returns-in-Model-clause-ok : goal.returns-in-Model-clause-ok
returns-in-Model-clause-ok g c = λ s at.
    subst (λ (r : Report). OnOk c.write_model.result (Appends (g.K.Sink.held c.args.out.now) (g.K.Sink.held c.write_model.new.out) (reported_of s r c.args.lots.now).reply)) (sym c.in-Model.is)
    (c.write_model.ensures.ok s at)

pub returns-in-Model-clause-err : goal.returns-in-Model-clause-err
returns-in-Model-clause-err g c = λ s at.
    subst (λ (r : Report). OnErr c.write_model.result (AppendsSome (g.K.Sink.held c.args.out.now) (g.K.Sink.held c.write_model.new.out) (reported_of s r c.args.lots.now).reply)) (sym c.in-Model.is)
    (c.write_model.ensures.err s at)
