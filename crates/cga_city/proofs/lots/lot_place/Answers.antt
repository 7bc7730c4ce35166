use Rattle.std.proofs.Common.{◌≡◌, ◌+◌, ◌∙◌, drop, length, length-append, ap, sym, arith}
use Rattle.std.specs.List.{position_from}
use Rattle.cga_check.specs.Uses.{same_name}
use Rattle.cga_shape.proofs.Door.{joined-drop}
use Rattle.cga_shape.specs.declared.lot.Lot.{Lot}
use Rattle.cga_shape.specs.Runs.{joined}
use Rattle.cga_city.specs.Lots.{lot_place}
use Rattle.cga_city.proofs.Runs.{place_begun, place_found, place_next}
use Rattle.cga_city.proofs.lots.lot_place.Goals as goal

pub loop-run-init : goal.loop-run-init
loop-run-init c =
    let runs = c.runs-run-items.result.now in record {
      within = omega (arith, ap length c.runs-run-items.ensures);
      place = place_begun (λ (lot : Lot). same_name lot.name c.args.name) (joined runs) ∙ ap (lot_place c.args.name) c.runs-run-items.ensures;
    }

pub returns-in-Some : goal.returns-in-Some
returns-in-Some c =
    let runs = c.runs-run-items.result.now in
    let k = c.loop-run.run-index in
    let run = c.run-item.result in
    let test = λ (lot : Lot). same_name lot.name c.args.name in
    let rest = joined (drop (k + 1) runs) in
    let left = joined-drop runs k run c.loop-run-test.true c.run-item.is in
    let here = sym c.in-Some.is ∙ (c.place_in.ensures ∙ ap (lot_place c.args.name) c.as_slice.ensures) in
    sym (place_found test c.loop-run.before run rest c.in-Some.place here)
    ∙ (ap (position_from test c.loop-run.before) (sym left) ∙ c.loop-run.invariant.place)

pub loop-run-preserved : goal.loop-run-preserved
loop-run-preserved c =
    let runs = c.runs-run-items.result.now in
    let k = c.loop-run.run-index in
    let run = c.run-item.result in
    let test = λ (lot : Lot). same_name lot.name c.args.name in
    let rest = joined (drop (k + 1) runs) in
    let left = joined-drop runs k run c.loop-run-test.true c.run-item.is in
    let none = sym c.in_default.is ∙ (c.place_in.ensures ∙ ap (lot_place c.args.name) c.as_slice.ensures) in
    let before : c.loop-run.before + c.len-before.result ≡ c.loop-run.before + length run = omega arith in
    let sum = length-append run rest in record {
      within = omega (arith, sum, ap length left, c.loop-run.invariant.within);
      place =
          ap (λ n. position_from test n rest) before
          ∙ (sym (place_next test c.loop-run.before run rest none)
          ∙ (ap (position_from test c.loop-run.before) (sym left) ∙ c.loop-run.invariant.place));
    }
