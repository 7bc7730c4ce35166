use Rattle.std.proofs.Common.{ap}
use Rattle.cga_depend.specs.Pairs.{DependentsView}
use Rattle.cga_update.proofs.Fresh.{fresh_stands}
use Rattle.cga_update.proofs.anew.kept_of_nothing.Goals as goal

pub returns : goal.returns
returns c =
    fresh_stands c.args.sources.now c.new.result c.new.ensures c.new-dependents.result (ap (λ (d : DependentsView). d.nodes) c.new-dependents.ensures)
