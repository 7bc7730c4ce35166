use Rattle.std.proofs.Common.{subst}
use Rattle.cga_forest.specs.Tree.{IsForest}
use Rattle.cga_forest.proofs.Forest.laws.Goals as goal

pub returns : goal.returns
returns c = subst IsForest c.self.view_is c.self.invariant.forest
