use Rattle.std.proofs.Common.{◌++◌}
use Rattle.cga_order.specs.World.{Among}
use Rattle.cga_queue.proofs.Door.{grows_by, on_ok}
use Rattle.cga_update.specs.Askers.{IsAsker}
use Rattle.cga_update.specs.Queue.{chains_of}
use Rattle.cga_update.proofs.NearMoved.{asker_from, asker_in}
use Rattle.cga_update.proofs.queue.queue_near.Goals as goal

pub returns-clause-grows : goal.returns-clause-grows
returns-clause-grows g c =
    let v = c.args.forest.now in
    let moved = c.args.removed.now ++ c.args.created.now in
    let lent = c.as_slice.result.now in
    on_ok c.add_all.result
    (grows_by (chains_of v) (λ k. Among k lent) (IsAsker v moved) c.args.agenda.now c.add_all.new.agenda
    (asker_from v moved c.in_ok-askers.askers lent c.as_slice.ensures c.in_ok-askers.ensures))
    c.add_all.ensures.grows

pub returns-clause-there : goal.returns-clause-there
returns-clause-there g c =
    on_ok c.add_all.result
    (λ has k asker here. has k (asker_in c.args.forest.now (c.args.removed.now ++ c.args.created.now) c.in_ok-askers.askers c.as_slice.result.now c.as_slice.ensures c.in_ok-askers.ensures k asker) here)
    c.add_all.ensures.there
