use Rattle.cga_index.proofs.Askers.{quiet_same, far_same}
use Rattle.cga_index.proofs.listing.list_one.Goals as goal

pub returns-then-not-asks : goal.returns-then-not-asks
returns-then-not-asks g c = quiet_same (g.H.HullTree.view c.args.tree.now) c.args.area.now c.args.node c.args.out.now.items c.asks.result c.asks.ensures c.if-not-asks.true

pub returns-else-meets : goal.returns-else-meets
returns-else-meets g c = far_same (g.H.HullTree.view c.args.tree.now) c.args.area.now c.own_box-own.result c.args.node c.args.out.now.items c.asks.result c.meets.result c.asks.ensures c.if-not-asks.false c.own_box-own.ensures.value c.meets.ensures.value c.if-meets.false
