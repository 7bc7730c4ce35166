use Rattle.std.proofs.Common.{refl}
use Rattle.cga_update.proofs.InLoops.{drop_at, drop_end}
use Rattle.cga_update.proofs.Logged.{removed_next, removed_end, drawn_next, drawn_end}
use Rattle.cga_update.proofs.log.note_removed.Goals as goal

pub loop-node-preserved : goal.loop-node-preserved
loop-node-preserved c =
    let rest = drop_at c.args.moved.now c.args.moved.now refl c.loop-node.node-index c.node-item.result c.loop-node-test.true c.node-item.is in record {
      log = removed_next c.node-item.result _ _ _ _ _ rest c.in_ok-note_gone.ensures.log c.loop-node.invariant.log;
      gone = drawn_next c.node-item.result _ _ _ _ _ rest c.in_ok-note_gone.ensures.gone c.loop-node.invariant.gone;
    }

pub returns : goal.returns
returns c =
    let none = drop_end c.args.moved.now c.args.moved.now refl c.loop-node.node-index c.loop-node-test.false in record {
      log = removed_end _ _ _ none c.loop-node.invariant.log;
      gone = drawn_end _ _ _ none c.loop-node.invariant.gone;
    }
