use Rattle.std.proofs.Common.{◌≡◌, arith}
use Rattle.cga_fraction.proofs.Door.{slice_get_from_get_or}
use Rattle.cga_forest.specs.declared.node_change.NodeChange.{NodeChange}
use Rattle.cga_queue.proofs.Door.{first_all, first_more, grows_not, one_grows}
use Rattle.cga_update.specs.Askers.{IsOneOf}
use Rattle.cga_update.specs.Queue.{chains_of}
use Rattle.cga_update.proofs.queue.add_moved.Goals as goal

pub loop-node-init : goal.loop-node-init
loop-node-init c = record {
  grows = grows_not (chains_of c.args.forest.now) (IsOneOf c.args.moved.now) c.args.agenda.now;
  there = λ j m lt. absurd (omega (arith, lt));
}

pub loop-node-preserved : goal.loop-node-preserved
loop-node-preserved c =
    let D = chains_of c.args.forest.now in
    let moved = c.args.moved.now in
    let n = c.loop-node.node-index in
    let node = c.node-item.result in
    let a = c.loop-node.agenda in
    let b = c.add.new.agenda in
    let at = slice_get_from_get_or moved n node c.loop-node-test.true c.node-item.is in
    let more = c.in_ok-add.ensures in record {
      grows = one_grows D (λ (m : NodeChange) k. m.id ≡ k) moved n node a b at more.grows c.args.agenda.now c.loop-node.invariant.grows;
      there = first_more D (λ (m : NodeChange) k. m.id ≡ k) moved n node a b at more.grows more.there c.loop-node.invariant.there;
    }

pub returns-clause-there : goal.returns-clause-there
returns-clause-there c =
    first_all (chains_of c.args.forest.now) (λ (m : NodeChange) k. m.id ≡ k) c.args.moved.now c.loop-node.node-index c.loop-node.agenda c.loop-node-test.false c.loop-node.invariant.there
