use Rattle.std.proofs.Common.{List, ap, sym, slice_get, ◌∙◌}
use Rattle.std.proofs.lemmas.Option.{slice_get_past}
use Rattle.cga_shape.specs.declared.lot.Lot.{Lot}
use Rattle.cga_shape.specs.Runs.{joined}
use Rattle.cga_shape.proofs.Runs.{spot_get}
use Rattle.cga_shape.proofs.lots.Lots.get.Goals as goal

pub returns-in-Some : goal.returns-in-Some
returns-in-Some c =
    let runs = c.runs-runs.result.now in
    let run = c.index-runs-run.result in
    c.lot_of.ensures
    ∙ (spot_get runs c.args.place c.in-Some.run' c.in-Some.place c.in-Some.ensures.found run c.index-runs-run.is
    ∙ ap (λ (lots : List Lot). slice_get lots c.args.place) c.runs-runs.ensures)

pub returns-in-None : goal.returns-in-None
returns-in-None c =
    let runs = c.runs-runs.result.now in
    sym (ap (λ (lots : List Lot). slice_get lots c.args.place) (sym c.runs-runs.ensures) ∙ slice_get_past (joined runs) c.args.place c.in-None.ensures.past)
