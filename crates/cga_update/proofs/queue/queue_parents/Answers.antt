use Rattle.std.proofs.Common.{sym, subst, ◌∙◌, arith}
use Rattle.cga_fraction.proofs.Door.{same_Some, slice_get_from_get_or}
use Rattle.cga_order.specs.World.{Among}
use Rattle.cga_order.proofs.Door.{Among-index}
use Rattle.cga_queue.proofs.Door.{first_each, first_next, grows_by, on_ok}
use Rattle.cga_update.specs.Near.{IsParentOf}
use Rattle.cga_update.specs.Queue.{chains_of}
use Rattle.cga_update.proofs.Nearby.{HasParents, parents_only}
use Rattle.cga_update.proofs.queue.queue_parents.Goals as goal

pub loop-id-init : goal.loop-id-init
loop-id-init c = record {
  all = λ j k lt. absurd (omega (arith, lt));
  only = λ p among. absurd (subst (Among p) c.new-parents.ensures among);
}

pub loop-id-preserved : goal.loop-id-preserved
loop-id-preserved c =
    let v = c.args.forest.now in
    let ids = c.args.ids.now in
    let n = c.loop-id.id-index in
    let id = c.id-item.result in
    let at = slice_get_from_get_or ids n id c.loop-id-test.true c.id-item.is in
    let more = c.in_ok-note_parent.ensures in record {
      all = first_next (HasParents v c.loop-id.parents) (HasParents v c.note_parent.new.parents) ids n
          (λ k has p w. more.kept p (has p w)) (λ k is. subst (HasParents v c.note_parent.new.parents) (same_Some id k (sym at ∙ is)) more.there)
          c.loop-id.invariant.all;
      only = parents_only v ids n id c.loop-id.parents c.note_parent.new.parents at more.only c.loop-id.invariant.only;
    }

pub returns-clause-grows : goal.returns-clause-grows
returns-clause-grows c =
    let v = c.args.forest.now in
    let ids = c.args.ids.now in
    let lent = c.as_slice.result.now in
    on_ok c.add_all.result
    (grows_by (chains_of v) (λ k. Among k lent) (IsParentOf v ids) c.args.agenda.now c.add_all.new.agenda
    (λ k among. c.loop-id.invariant.only k (subst (λ l. Among k l) c.as_slice.ensures among)))
    c.add_all.ensures.grows

pub returns-clause-there : goal.returns-clause-there
returns-clause-there c =
    let v = c.args.forest.now in
    let ids = c.args.ids.now in
    let all = first_each (HasParents v c.loop-id.parents) ids c.loop-id.id-index c.loop-id-test.false c.loop-id.invariant.all in
    on_ok c.add_all.result
    (λ has p w here.
    let at = Among-index ids w.0 w.1 in
    has p (subst (λ l. Among p l) (sym c.as_slice.ensures) (all at.0 w.0 at.1 p w.2)) here)
    c.add_all.ensures.there
