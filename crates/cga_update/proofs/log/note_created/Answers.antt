use Rattle.std.proofs.Common.{refl}
use Rattle.cga_update.proofs.InLoops.{drop_at, drop_end}
use Rattle.cga_update.proofs.Logged.{created_next, created_end, drawn_next, drawn_end}
use Rattle.cga_update.proofs.log.note_created.Goals as goal

pub loop-node-preserved : goal.loop-node-preserved
loop-node-preserved c =
    let rest = drop_at c.args.moved.now c.args.moved.now refl c.loop-node.node-index c.node-item.result c.loop-node-test.true c.node-item.is in record {
      log = created_next c.node-item.result _ _ _ _ _ rest c.in_ok-note_come.ensures.log c.loop-node.invariant.log;
      come = drawn_next c.node-item.result _ _ _ _ _ rest c.in_ok-note_come.ensures.come c.loop-node.invariant.come;
    }

pub returns : goal.returns
returns c =
    let none = drop_end c.args.moved.now c.args.moved.now refl c.loop-node.node-index c.loop-node-test.false in record {
      log = created_end _ _ _ none c.loop-node.invariant.log;
      come = drawn_end _ _ _ none c.loop-node.invariant.come;
    }
