use Rattle.std.proofs.Common.{List, subst, ℕ}
use Rattle.std.specs.Io.KnownBytes.{Appends}
use Rattle.std.specs.Prelude.{OnErr, OnOk}
use Rattle.cga_top.specs.Prefixes.{AppendsSome}
use Rattle.cga_top.proofs.Reporting.{large_at, small_at}
use Rattle.cga_top.proofs.models.write_model.Goals as goal

pub returns-in-Ok-true-clause-ok : goal.returns-in-Ok-true-clause-ok
returns-in-Ok-true-clause-ok g c = λ s at.
    subst (λ (t : List ℕ). OnOk c.write_refusal.result (Appends (g.K.Sink.held c.args.out.now) (g.K.Sink.held c.write_refusal.new.out) t))
    (large_at s c.args.session.now at c.args.lots.now c.in-Ok-true.field-0 (c.in-Ok-true.ensures {u = tt}) c.in-Ok-true.field-0-test) c.write_refusal.ensures.ok

pub returns-in-Ok-true-clause-err : goal.returns-in-Ok-true-clause-err
returns-in-Ok-true-clause-err g c = λ s at.
    subst (λ (t : List ℕ). OnErr c.write_refusal.result (AppendsSome (g.K.Sink.held c.args.out.now) (g.K.Sink.held c.write_refusal.new.out) t))
    (large_at s c.args.session.now at c.args.lots.now c.in-Ok-true.field-0 (c.in-Ok-true.ensures {u = tt}) c.in-Ok-true.field-0-test) c.write_refusal.ensures.err

pub returns-in-Ok-false-clause-ok : goal.returns-in-Ok-false-clause-ok
returns-in-Ok-false-clause-ok g c = λ s at.
    subst (λ (t : List ℕ). OnOk c.write_text.result (Appends (g.K.Sink.held c.args.out.now) (g.K.Sink.held c.write_text.new.out) t))
    (small_at s c.args.session.now at c.args.lots.now c.in-Ok-false.field-0 (c.in-Ok-false.ensures {u = tt}) c.in-Ok-false.field-0-test) c.write_text.ensures.ok

pub returns-in-Ok-false-clause-err : goal.returns-in-Ok-false-clause-err
returns-in-Ok-false-clause-err g c = λ s at.
    subst (λ (t : List ℕ). OnErr c.write_text.result (AppendsSome (g.K.Sink.held c.args.out.now) (g.K.Sink.held c.write_text.new.out) t))
    (small_at s c.args.session.now at c.args.lots.now c.in-Ok-false.field-0 (c.in-Ok-false.ensures {u = tt}) c.in-Ok-false.field-0-test) c.write_text.ensures.err
