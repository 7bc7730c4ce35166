use Rattle.std.proofs.Common.{◌≡◌, ◌∙◌, ◌∷◌, [], List, ℕ, Option, Some, ap, subst, sym}
use Rattle.std.specs.Io.KnownBytes.{Appends}
use Rattle.std.specs.List.{IsDistinct}
use Rattle.std.specs.Prelude.{OnErr, OnOk}
use Rattle.cga_script.specs.Refusals.{refusal_text_of}
use Rattle.cga_script.specs.declared.refused.Refused.TheVariants as refused
use Rattle.cga_shape.specs.declared.edit_refused.EditRefused.TheVariants as cause
use Rattle.cga_top.specs.Prefixes.{AppendsSome}
use Rattle.cga_top.specs.Reported.{reported}
use Rattle.cga_top.proofs.Reporting.{lot_at, reported_gone, reported_there}
use Rattle.cga_top.proofs.report.write_report.Goals as goal

pub returns-in-None-clause-ok : goal.returns-in-None-clause-ok
returns-in-None-clause-ok g c = λ s at.
    subst (λ (n : Option (List ℕ)). OnOk c.write_city.result (Appends (g.K.Sink.held c.args.out.now) (g.K.Sink.held c.write_city.new.out) (reported s c.args.report n).reply)) (sym c.in-None.is) (c.write_city.ensures.ok s at)

pub returns-in-None-clause-err : goal.returns-in-None-clause-err
returns-in-None-clause-err g c = λ s at.
    subst (λ (n : Option (List ℕ)). OnErr c.write_city.result (AppendsSome (g.K.Sink.held c.args.out.now) (g.K.Sink.held c.write_city.new.out) (reported s c.args.report n).reply)) (sym c.in-None.is) (c.write_city.ensures.err s at)

pub returns-in-Some-clause-ok : goal.returns-in-Some-clause-ok
returns-in-Some-clause-ok g c = λ s at.
    let lot = c.in-Some.lot in
    let there = lot_at s c.args.session.now at lot c.has_lot.result c.has_lot.ensures ∙ c.if-has_lot.true in
    let same = reported_there s c.args.report lot there ∙ ap (λ (n : Option (List ℕ)). (reported s c.args.report n).reply) (sym c.in-Some.is) in
    subst (λ (t : List ℕ). OnOk c.write_of.result (Appends (g.K.Sink.held c.args.out.now) (g.K.Sink.held c.write_of.new.out) t)) same (c.write_of.ensures.ok s at)

pub returns-in-Some-2-clause-ok : goal.returns-in-Some-2-clause-ok
returns-in-Some-2-clause-ok g c = λ s at.
    let both : Some c.in-Some-2.lot ≡ Some c.in-Some.lot = sym c.in-Some-2.is ∙ c.in-Some.is in
    let lot = c.in-Some.lot in
    let own : c.in-Some-2.lot ≡ lot = cc in
    let none = lot_at s c.args.session.now at lot c.has_lot.result c.has_lot.ensures ∙ c.if-has_lot.false in
    let same = ap (λ (n : List ℕ). refusal_text_of (refused.Edit (cause.NoLot n))) own ∙ reported_gone s c.args.report lot none
    ∙ ap (λ (n : Option (List ℕ)). (reported s c.args.report n).reply) (sym c.in-Some.is) in
    subst (λ (t : List ℕ). OnOk c.write_refusal.result (Appends (g.K.Sink.held c.args.out.now) (g.K.Sink.held c.write_refusal.new.out) t)) same c.write_refusal.ensures.ok

pub returns-in-Some-clause-err : goal.returns-in-Some-clause-err
returns-in-Some-clause-err g c = λ s at.
    let lot = c.in-Some.lot in
    let there = lot_at s c.args.session.now at lot c.has_lot.result c.has_lot.ensures ∙ c.if-has_lot.true in
    let same = reported_there s c.args.report lot there ∙ ap (λ (n : Option (List ℕ)). (reported s c.args.report n).reply) (sym c.in-Some.is) in
    subst (λ (t : List ℕ). OnErr c.write_of.result (AppendsSome (g.K.Sink.held c.args.out.now) (g.K.Sink.held c.write_of.new.out) t)) same (c.write_of.ensures.err s at)

pub returns-in-Some-2-clause-err : goal.returns-in-Some-2-clause-err
returns-in-Some-2-clause-err g c = λ s at.
    let both : Some c.in-Some-2.lot ≡ Some c.in-Some.lot = sym c.in-Some-2.is ∙ c.in-Some.is in
    let lot = c.in-Some.lot in
    let own : c.in-Some-2.lot ≡ lot = cc in
    let none = lot_at s c.args.session.now at lot c.has_lot.result c.has_lot.ensures ∙ c.if-has_lot.false in
    let same = ap (λ (n : List ℕ). refusal_text_of (refused.Edit (cause.NoLot n))) own ∙ reported_gone s c.args.report lot none
    ∙ ap (λ (n : Option (List ℕ)). (reported s c.args.report n).reply) (sym c.in-Some.is) in
    subst (λ (t : List ℕ). OnErr c.write_refusal.result (AppendsSome (g.K.Sink.held c.args.out.now) (g.K.Sink.held c.write_refusal.new.out) t)) same c.write_refusal.ensures.err

pub write_of-requires-clause-distinct : goal.write_of-requires-clause-distinct
unfolding IsDistinct
write_of-requires-clause-distinct g c = (tt, tt)
