use Rattle.cga_city.proofs.Kept.{empty_city_is}
use Rattle.cga_city.proofs.city.City.new.Goals as goal

pub invariant_of-result : goal.invariant_of-result
invariant_of-result c = rw c.empty_sources.ensures (empty_city_is c.args.budget _ c.no_shapes.ensures)
