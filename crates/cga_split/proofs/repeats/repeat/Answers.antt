use Rattle.cga_split.proofs.Scopes.{repeat_settled}
use Rattle.cga_split.proofs.repeats.repeat.Goals as goal

pub returns-clause-cut : goal.returns-clause-cut
returns-clause-cut c =
    rw c.settled.ensures.exact (repeat_settled c.args.scope.now c.args.axis c.args.length c.repeated.result c.repeated.ensures)
