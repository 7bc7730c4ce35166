use Rattle.std.specs.List.{IsDistinct}
use Rattle.cga_depend.proofs.dependents.Dependents.nodes_of.Goals as goal

pub returns-in-None-clause-once : goal.returns-in-None-clause-once
unfolding IsDistinct
returns-in-None-clause-once c = tt
