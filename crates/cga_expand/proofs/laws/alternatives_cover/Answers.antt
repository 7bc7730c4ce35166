use Rattle.cga_expand.proofs.Cover.{alternatives_cover}
use Rattle.cga_expand.proofs.laws.alternatives_cover.Goals as goal

pub returns : goal.returns
returns c = alternatives_cover
