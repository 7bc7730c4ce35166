use Rattle.std.proofs.Common.{◌*◌, ◌+◌, arith}
use Rattle.cga_index.proofs.Blocks.{run_listed}
use Rattle.cga_index.proofs.listing.list_group.Goals as goal

pub returns-then-not-group_asks : goal.returns-then-not-group_asks
returns-then-not-group_asks g c =
    run_listed (g.H.HullTree.view c.args.tree.now) c.requires.laws c.args.area.now (256 * c.args.group) 256 (256 * (c.args.group + 1)) c.args.out.now.items (omega arith) (c.group_asks.ensures c.if-not-group_asks.true)
