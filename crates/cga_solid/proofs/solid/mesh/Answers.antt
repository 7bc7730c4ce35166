use Rattle.cga_solid.proofs.Boxed.{closed_settled, inside_settled}
use Rattle.cga_solid.proofs.solid.mesh.Goals as goal

pub returns-clause-closed : goal.returns-clause-closed
returns-clause-closed c = rw c.settled.ensures.exact (closed_settled c.args.primitive c.args.scope.now c.made.result c.made.ensures.value)

pub returns-clause-inside : goal.returns-clause-inside
returns-clause-inside c = rw c.settled.ensures.exact (inside_settled c.args.primitive c.args.scope.now c.made.result c.made.ensures.sizes c.made.ensures.value)
