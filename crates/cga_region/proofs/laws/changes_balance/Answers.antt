use Rattle.cga_region.proofs.Balanced.{changes_balance}
use Rattle.cga_region.proofs.laws.changes_balance.Goals as goal

pub returns : goal.returns
returns c = changes_balance c.jobs_are_the_town.ensures c.told_is_settled.ensures
