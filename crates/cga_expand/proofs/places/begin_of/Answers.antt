use Rattle.cga_expand.proofs.Around.{begins_at}
use Rattle.cga_expand.proofs.places.begin_of.Goals as goal

pub returns : goal.returns
returns c = begins_at c.args.symbol c.args.entries.now c.first_place.result c.unwrap_or.result c.first_place.ensures c.unwrap_or.ensures
