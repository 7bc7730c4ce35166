use Rattle.cga_split.proofs.Scopes.{subdiv_settled}
use Rattle.cga_split.proofs.subdivide.subdiv.Goals as goal

pub returns-clause-cut : goal.returns-clause-cut
returns-clause-cut c =
    rw c.settled.ensures.exact (subdiv_settled c.args.scope.now c.args.axis c.args.sizes.now c.divide.result c.divide.ensures.fractions c.divide.ensures.value)
