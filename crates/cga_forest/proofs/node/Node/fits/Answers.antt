use Rattle.cga_forest.proofs.Equal.{fits_exact}
use Rattle.cga_forest.proofs.node.Node.fits.Goals as goal

pub returns-clause-exact : goal.returns-clause-exact
returns-clause-exact c = fits_exact c.args.self.now c.args.new.now c.are_alike.result c.are_alike.ensures
