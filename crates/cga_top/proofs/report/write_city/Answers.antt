use Rattle.std.proofs.Common.{◌≡◌, ◌∙◌, List, ℕ, ap, arith, length, subst, sym}
use Rattle.std.proofs.lemmas.List.{length-map}
use Rattle.std.specs.Io.KnownBytes.{Appends}
use Rattle.std.specs.List.{IsDistinct}
use Rattle.std.specs.Prelude.{OnErr, OnOk, bytes_eq}
use Rattle.cga_city.specs.Lots.{names_of}
use Rattle.cga_shape.specs.declared.lot.Lot.{Lot}
use Rattle.cga_shape.specs.declared.sources.Sources.{Sources}
use Rattle.cga_top.specs.Prefixes.{AppendsSome}
use Rattle.cga_top.specs.Reported.{reported_of}
use Rattle.cga_top.proofs.report.write_city.Goals as goal

pub write_of-requires-clause-distinct : goal.write_of-requires-clause-distinct
write_of-requires-clause-distinct g c =
    subst (IsDistinct bytes_eq) (sym (c.as_slice.ensures ∙ c.in-Ok.ensures)) c.lots.ensures.distinct

pub write_of-requires-clause-few : goal.write_of-requires-clause-few
write_of-requires-clause-few g c =
    let lots = c.lots.result.now in
    let names : length c.as_slice.result.now ≡ length (names_of lots) = ap length (c.as_slice.ensures ∙ c.in-Ok.ensures) in
    let each : length (names_of lots) ≡ length lots = length-map lots (λ (lot : Lot). lot.name) in
    let all : length lots ≡ length c.args.session.now.city.sources.lots = ap length c.lots.ensures.value in
    omega (arith, names, each, all, c.lot_count-count.ensures, c.lot_count-count.type_inv)

pub returns-clause-ok : goal.returns-clause-ok
returns-clause-ok g c = λ s at.
    let names = c.as_slice.ensures ∙ c.in-Ok.ensures ∙ ap names_of (c.lots.ensures.value ∙ ap (λ (x : Sources). x.lots) at.sources) in
    subst (λ (lots : List (List ℕ)). OnOk c.write_of.result (Appends (g.K.Sink.held c.args.out.now) (g.K.Sink.held c.write_of.new.out) (reported_of s c.args.report lots).reply))
    names (c.write_of.ensures.ok s at)

pub returns-clause-err : goal.returns-clause-err
returns-clause-err g c = λ s at.
    let names = c.as_slice.ensures ∙ c.in-Ok.ensures ∙ ap names_of (c.lots.ensures.value ∙ ap (λ (x : Sources). x.lots) at.sources) in
    subst (λ (lots : List (List ℕ)). OnErr c.write_of.result (AppendsSome (g.K.Sink.held c.args.out.now) (g.K.Sink.held c.write_of.new.out) (reported_of s c.args.report lots).reply))
    names (c.write_of.ensures.err s at)
