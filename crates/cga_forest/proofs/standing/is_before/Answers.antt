use Rattle.std.proofs.Common.{sym, subst}
use Rattle.cga_order.specs.Chain as order
use Rattle.cga_forest.specs.View.{seen}
use Rattle.cga_forest.proofs.standing.is_before.Goals as goal

pub cmp_stamp-requires-clause-left : goal.cmp_stamp-requires-clause-left
cmp_stamp-requires-clause-left c = subst order.IsWhole (sym c.chain.ensures) (c.requires.chains c.args.id (seen c.in-Some.entry.now) c.in-Some.ensures)
