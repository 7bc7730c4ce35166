use Rattle.std.proofs.Common.{◌+◌, ◌∙◌, ap, drop, sym}
use Rattle.std.specs.Prelude.{is_ok}
use Rattle.cga_shape.proofs.Door.{joined-drop, runs_left}
use Rattle.cga_shape.specs.Runs.{joined}
use Rattle.cga_city.specs.Lots.{rooted}
use Rattle.cga_city.proofs.Runs.{rooted-append, then_next, then_stops}
use Rattle.cga_city.proofs.lots.rooted.Goals as goal

pub loop-run-init : goal.loop-run-init
loop-run-init c = ap (rooted c.args.grammar.now) c.runs-run-items.ensures

pub loop-run-preserved : goal.loop-run-preserved
loop-run-preserved c =
    let g = c.args.grammar.now in
    let runs = c.runs-run-items.result.now in
    let k = c.loop-run.run-index in
    let run = c.run-item.result in
    let rest = joined (drop (k + 1) runs) in
    let left = joined-drop runs k run c.loop-run-test.true c.run-item.is in
    let all = sym c.are_rooted.ensures ∙ c.if-not-are_rooted.false in
    let next = then_next (rooted g run) (rooted g rest) (ap (λ l. is_ok (rooted g l)) (sym c.as_slice.ensures) ∙ all) in
    sym (ap (rooted g) left ∙ (rooted-append g run rest ∙ next)) ∙ c.loop-run.invariant

pub returns : goal.returns
returns c = sym (ap (rooted c.args.grammar.now) (runs_left c.runs-run-items.result.now c.loop-run.run-index c.loop-run-test.false)) ∙ c.loop-run.invariant

pub returns-then-not-are_rooted : goal.returns-then-not-are_rooted
returns-then-not-are_rooted c =
    let g = c.args.grammar.now in
    let runs = c.runs-run-items.result.now in
    let k = c.loop-run.run-index in
    let run = c.run-item.result in
    let rest = joined (drop (k + 1) runs) in
    let left = joined-drop runs k run c.loop-run-test.true c.run-item.is in
    let some = sym c.are_rooted.ensures ∙ c.if-not-are_rooted.true in
    let stops = then_stops (rooted g run) (rooted g rest) (ap (λ l. is_ok (rooted g l)) (sym c.as_slice.ensures) ∙ some) in
    let here = c.rooted_in.ensures ∙ ap (rooted g) c.as_slice-then-not-are_rooted.ensures in
    here ∙ (sym (ap (rooted g) left ∙ (rooted-append g run rest ∙ stops)) ∙ c.loop-run.invariant)
