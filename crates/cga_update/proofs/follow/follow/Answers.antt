use Rattle.cga_queue.proofs.Door.{on_ok, on_ok_both}
use Rattle.cga_update.proofs.Following.{followed_by, followed_due}
use Rattle.cga_update.proofs.follow.follow.Goals as goal

pub returns-clause-followed : goal.returns-clause-followed
returns-clause-followed g c =
    let moved = c.in_ok-add_moved.ensures in
    on_ok_both c.add_met.result
    (λ grows there are. followed_by c.args.forest.now c.args.of c.args.change.now c.args.nobody c.as_slice-created.result.now c.as_slice-removed.result.now
    c.args.agenda.now c.add_moved.new.agenda c.add_met.new.agenda
    c.as_slice-created.ensures c.as_slice-removed.ensures moved.grows moved.there grows (there (λ k is. moved.grows.kept k (are k is))))
    c.add_met.ensures.grows c.add_met.ensures.there

pub returns-clause-remembered : goal.returns-clause-remembered
returns-clause-remembered g c =
    on_ok c.add_met.result (λ kept are. kept (λ k is. c.in_ok-add_moved.ensures.grows.kept k (are k is))) c.add_met.ensures.remembered

pub returns-then-nobody-clause-followed : goal.returns-then-nobody-clause-followed
returns-then-nobody-clause-followed g c = λ are.
    followed_due c.args.forest.now c.args.of c.args.change.now c.args.nobody c.as_slice-created.result.now c.args.agenda.now
    c.add_moved.new.agenda c.as_slice-created.ensures c.if-nobody.true c.in_ok-add_moved.ensures.grows c.in_ok-add_moved.ensures.there

pub returns-then-nobody-clause-remembered : goal.returns-then-nobody-clause-remembered
returns-then-nobody-clause-remembered g c = λ are k is. c.in_ok-add_moved.ensures.grows.kept k (are k is)
