use Rattle.std.proofs.Common.{◌++◌}
use Rattle.cga_queue.specs.Agenda.{ComesAfter}
use Rattle.cga_order.specs.World.{Among}
use Rattle.cga_queue.proofs.Door.{grows_by, on_ok}
use Rattle.cga_update.specs.Askers.{IsAsker}
use Rattle.cga_update.specs.Queue.{chains_of}
use Rattle.cga_update.proofs.NearMoved.{asker_from, asker_in}
use Rattle.cga_update.proofs.follow.add_met.Goals as goal

pub returns-clause-grows : goal.returns-clause-grows
returns-clause-grows g c =
    let v = c.args.forest.now in
    let moved = c.args.removed.now ++ c.args.created.now in
    let lent = c.as_slice.result.now in
    let late = ComesAfter (chains_of v) c.args.agenda.now.mode c.args.of in
    on_ok c.add_later.result
    (grows_by (chains_of v) (λ k. Among k lent × late k) (λ k. IsAsker v moved k × late k) c.args.agenda.now c.add_later.new.agenda
    (λ k p. (asker_from v moved c.in_ok-askers.askers lent c.as_slice.ensures c.in_ok-askers.ensures k p.0, p.1)))
    c.add_later.ensures.grows

pub returns-clause-there : goal.returns-clause-there
returns-clause-there g c =
    on_ok c.add_later.result
    (λ has are k p here. has are k (asker_in c.args.forest.now (c.args.removed.now ++ c.args.created.now) c.in_ok-askers.askers c.as_slice.result.now c.as_slice.ensures c.in_ok-askers.ensures k p.0, p.1) here)
    c.add_later.ensures.there
