use Rattle.std.proofs.Common.{◌+◌, true, Some, subst, sym}
use Rattle.cga_agenda.specs.Loop.{TellsEach}
use Rattle.cga_agenda.specs.OneLot.{means_one_lot}
use Rattle.cga_calls.proofs.OneLot.{turn_tells}
use Rattle.cga_calls.proofs.one_lot.OneLotWorker.turn.Goals as goal

pub returns-clause-turned : goal.returns-clause-turned
returns-clause-turned g c =
    subst (λ n. TellsEach (means_one_lot c.args.self.now.done) (means_one_lot true) c.args.expansions.now n (Some 0)) (sym c.tick.ensures)
    (subst (λ b. TellsEach (means_one_lot b) (means_one_lot true) c.args.expansions.now (c.args.expansions.now + 1) (Some 0)) (sym c.if-self.false) (turn_tells c.args.expansions.now))
