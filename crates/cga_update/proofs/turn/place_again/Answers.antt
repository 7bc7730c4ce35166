use Rattle.std.proofs.Common.{◌∙◌, ap, refl, sym}
use Rattle.cga_fraction.proofs.Door.{same_Some as some_same}
use Rattle.cga_order.specs.World.{is_instance}
use Rattle.cga_forest.specs.View.{Seen}
use Rattle.cga_update.proofs.Growing.{grows_again}
use Rattle.cga_update.proofs.turn.place_again.Goals as goal

pub place-requires : goal.place-requires
place-requires g c =
    let e = c.requires.here in
    record { here = grows_again c.args.work.now.forest c.laws.ensures c.args.id e.0 e.1 e.2 c.in_ok-outcome.outcome (c.in_ok-outcome.ensures.no_more e.0 e.1) c.in_ok-outcome.ensures.few }

pub returns-clause-placed : goal.returns-clause-placed
returns-clause-placed g c =
    let e = c.requires.here in (
      c.in_ok-outcome.outcome,
      c.in_ok-place.ensures.placed,
      (λ d here waits plain. c.in_ok-outcome.ensures.again d here
          (ap (λ (k : Seen). is_instance k.node.kind) (some_same d e.0 (sym here ∙ e.1)) ∙ e.2) waits plain.childless),
      refl,
      refl,
    )
