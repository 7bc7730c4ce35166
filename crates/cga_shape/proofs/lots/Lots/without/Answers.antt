use Rattle.std.proofs.Common.{List, ap, sym, subst, arith, length, ◌∙◌}
use Rattle.std.proofs.lemmas.List.Edits.{length-remove}
use Rattle.cga_shape.specs.declared.lot.Lot.{Lot}
use Rattle.cga_shape.specs.Runs.{joined, IsSpot}
use Rattle.cga_shape.proofs.Runs.{made_remove, spot_inside, spot_within}
use Rattle.cga_shape.proofs.lots.Lots.without.Goals as goal

pub index-requires : goal.index-requires
index-requires c =
    let runs = c.in_ok-runs.runs in
    let here = spot_within c.runs-kept.result.now c.args.place c.in-Some.run' c.in-Some.place c.in-Some.ensures.found in
    omega (arith, here, runs.ok.0, ap length c.in_ok-runs.ensures)

pub run_without-requires : goal.run_without-requires
run_without-requires c =
    let runs = c.in_ok-runs.runs.items in
    let spot = subst (λ (rs : List (List Lot)). IsSpot rs c.args.place c.in-Some.run' c.in-Some.place) (sym c.in_ok-runs.ensures) c.in-Some.ensures.found in
    spot_inside runs c.args.place c.in-Some.run' c.in-Some.place spot c.index.result.now c.index.ensures

pub replace-requires : goal.replace-requires
replace-requires c =
    let here = spot_within c.runs-kept.result.now c.args.place c.in-Some.run' c.in-Some.place c.in-Some.ensures.found in
    omega (arith, here, ap length c.in_ok-runs.ensures)

pub returns : goal.returns
returns c =
    let runs = c.in_ok-runs.runs.items in
    let spot = subst (λ (rs : List (List Lot)). IsSpot rs c.args.place c.in-Some.run' c.in-Some.place) (sym c.in_ok-runs.ensures) c.in-Some.ensures.found in
    made_remove runs c.args.place c.in-Some.run' c.in-Some.place spot c.runs-kept.result.now
    c.in_ok-runs.ensures c.args.self.now c.runs-kept.ensures c.index.result.now c.in_ok-rest.rest c.index.ensures c.in_ok-from_vec.field-0
    (ap joined c.in_ok-from_vec.ensures ∙ c.replace.ensures) c.in_ok-rest.ensures

pub invariant_of-result : goal.invariant_of-result
invariant_of-result c =
    let runs = c.in_ok-runs.runs.items in
    let spot = subst (λ (rs : List (List Lot)). IsSpot rs c.args.place c.in-Some.run' c.in-Some.place) (sym c.in_ok-runs.ensures) c.in-Some.ensures.found in
    let made = made_remove runs c.args.place c.in-Some.run' c.in-Some.place spot c.runs-kept.result.now
    c.in_ok-runs.ensures c.args.self.now c.runs-kept.ensures c.index.result.now c.in_ok-rest.rest c.index.ensures c.in_ok-from_vec.field-0
    (ap joined c.in_ok-from_vec.ensures ∙ c.replace.ensures) c.in_ok-rest.ensures in
    let less = length-remove c.args.self.now c.args.place c.requires in
    omega (arith, less, c.self.invariant, ap length c.self.view_is, ap length made)
