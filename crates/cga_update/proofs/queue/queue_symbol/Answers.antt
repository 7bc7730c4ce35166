use Rattle.std.proofs.Common.{inl, inr}
use Rattle.cga_order.specs.World.{Among}
use Rattle.cga_queue.proofs.Door.{all_kept, grows_on}
use Rattle.cga_update.specs.Near.{IsAny, IsParentOf}
use Rattle.cga_update.specs.Queue.{chains_of}
use Rattle.cga_update.proofs.Changing.{priority_told_same}
use Rattle.cga_update.proofs.Nearby.{grows_any}
use Rattle.cga_update.proofs.queue.queue_symbol.Goals as goal

pub returns-then-facts-clause-grows : goal.returns-then-facts-clause-grows
returns-then-facts-clause-grows c =
    grows_any (chains_of c.args.forest.now) (λ k. Among k c.args.nodes.now) c.args.agenda.now c.add_all.new.agenda c.in_ok-add_all.ensures.grows

pub returns-then-facts-clause-parents : goal.returns-then-facts-clause-parents
returns-then-facts-clause-parents c = inr (priority_told_same c.args.grammars.now.before c.args.grammars.now.after c.args.symbol (c.in_ok-facts.ensures.facts.priorities.0 c.if-facts.true))

pub returns-then-facts-clause-priced : goal.returns-then-facts-clause-priced
returns-then-facts-clause-priced c = λ is k among. priority_told_same c.args.grammars.now.before c.args.grammars.now.after c.args.symbol (c.in_ok-facts.ensures.facts.priorities.0 c.if-facts.true)

pub returns-clause-grows : goal.returns-clause-grows
returns-clause-grows c =
    let v = c.args.forest.now in
    let D = chains_of v in
    let nodes = c.args.nodes.now in
    let mid = c.queue_parents.new.agenda in
    grows_on D IsAny c.args.agenda.now mid c.add_all-2.new.agenda
    (grows_any D (IsParentOf v nodes) c.args.agenda.now mid c.in_ok-queue_parents.ensures.grows)
    (grows_any D (λ k. Among k nodes) mid c.add_all-2.new.agenda c.in_ok-add_all-2.ensures.grows)

pub returns-clause-parents : goal.returns-clause-parents
returns-clause-parents c =
    let v = c.args.forest.now in
    let nodes = c.args.nodes.now in
    inl (all_kept (chains_of v) (IsParentOf v nodes) (λ k. Among k nodes) c.queue_parents.new.agenda c.add_all-2.new.agenda c.in_ok-add_all-2.ensures.grows c.in_ok-queue_parents.ensures.there)
