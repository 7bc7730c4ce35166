use Rattle.cga_update.proofs.Growing.{grows_by_expansion}
use Rattle.cga_update.proofs.turn.expand_at.Goals as goal

pub place-requires : goal.place-requires
place-requires g c =
    let e = c.requires.here in
    record { here = grows_by_expansion c.args.work.now.forest c.laws.ensures c.args.id e.0 e.1 e.2 c.args.work.now.rules c.args.answers c.in_ok-outcome.outcome c.in_ok-outcome.ensures.value c.in_ok-outcome.ensures.few }
