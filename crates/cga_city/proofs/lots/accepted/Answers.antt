use Rattle.std.proofs.Common.{◌+◌, ◌∙◌, ap, drop, sym}
use Rattle.std.specs.Prelude.{is_ok}
use Rattle.cga_shape.proofs.Door.{joined-drop, runs_left}
use Rattle.cga_shape.specs.Runs.{joined}
use Rattle.cga_city.specs.Lots.{accepted}
use Rattle.cga_city.proofs.Runs.{accepted-append, then_next, then_stops}
use Rattle.cga_city.proofs.lots.accepted.Goals as goal

pub loop-run-init : goal.loop-run-init
loop-run-init c = ap (accepted c.args.grammar.now) c.runs-run-items.ensures

pub loop-run-preserved : goal.loop-run-preserved
loop-run-preserved c =
    let g = c.args.grammar.now in
    let runs = c.runs-run-items.result.now in
    let k = c.loop-run.run-index in
    let run = c.run-item.result in
    let rest = joined (drop (k + 1) runs) in
    let left = joined-drop runs k run c.loop-run-test.true c.run-item.is in
    let all = sym c.are_accepted.ensures ∙ c.if-not-are_accepted.false in
    let next = then_next (accepted g run) (accepted g rest) (ap (λ l. is_ok (accepted g l)) (sym c.as_slice.ensures) ∙ all) in
    sym (ap (accepted g) left ∙ (accepted-append g run rest ∙ next)) ∙ c.loop-run.invariant

pub returns : goal.returns
returns c = sym (ap (accepted c.args.grammar.now) (runs_left c.runs-run-items.result.now c.loop-run.run-index c.loop-run-test.false)) ∙ c.loop-run.invariant

pub returns-then-not-are_accepted : goal.returns-then-not-are_accepted
returns-then-not-are_accepted c =
    let g = c.args.grammar.now in
    let runs = c.runs-run-items.result.now in
    let k = c.loop-run.run-index in
    let run = c.run-item.result in
    let rest = joined (drop (k + 1) runs) in
    let left = joined-drop runs k run c.loop-run-test.true c.run-item.is in
    let some = sym c.are_accepted.ensures ∙ c.if-not-are_accepted.true in
    let stops = then_stops (accepted g run) (accepted g rest) (ap (λ l. is_ok (accepted g l)) (sym c.as_slice.ensures) ∙ some) in
    let here = c.accepted_in.ensures ∙ ap (accepted g) c.as_slice-then-not-are_accepted.ensures in
    here ∙ (sym (ap (accepted g) left ∙ (accepted-append g run rest ∙ stops)) ∙ c.loop-run.invariant)
