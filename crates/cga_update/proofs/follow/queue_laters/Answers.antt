use Rattle.std.proofs.Common.{subst, sym}
use Rattle.cga_order.specs.World.{Among}
use Rattle.cga_queue.specs.Agenda.{ComesAfter}
use Rattle.cga_queue.proofs.Door.{grows_by, on_ok}
use Rattle.cga_update.specs.Queue.{chains_of}
use Rattle.cga_update.proofs.follow.queue_laters.Goals as goal

pub returns-clause-grows : goal.returns-clause-grows
returns-clause-grows c =
    let v = c.args.forest.now in
    let lent = c.as_slice.result.now in
    let late = ComesAfter (chains_of v) c.args.agenda.now.mode c.args.of in
    on_ok c.add_later.result
    (grows_by (chains_of v) (λ k. Among k lent × late k) late c.args.agenda.now c.add_later.new.agenda (λ k p. p.1))
    c.add_later.ensures.grows

pub returns-clause-there : goal.returns-clause-there
returns-clause-there c =
    on_ok c.add_later.result
    (λ has are k p here. has are k (subst (λ l. Among k l) (sym c.as_slice.ensures.value) (c.in_ok-askers.ensures k p.0), p.1) here)
    c.add_later.ensures.there
