use Rattle.cga_city.proofs.Kept.{nothing_stands}
use Rattle.cga_city.proofs.empty.no_shapes.Goals as goal

pub returns : goal.returns
returns c = rw (c.new.ensures, c.new-2.ensures) (nothing_stands c.args.mode)
