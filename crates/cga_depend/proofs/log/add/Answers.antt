use Rattle.cga_depend.proofs.Applying.{added}
use Rattle.cga_depend.proofs.log.add.Goals as goal

pub returns : goal.returns
returns c = record { noted = added c.args.dependents.now c.add.new.self c.args.symbol c.args.node c.in_ok-add.ensures.nodes }
