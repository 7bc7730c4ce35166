use Rattle.std.proofs.Common.{◌∙◌, ◌++◌, refl, subst, List, ℕ}
use Rattle.cga_forest.specs.declared.node_change.NodeChange.{NodeChange}
use Rattle.cga_queue.specs.Remembered.{IsRemembered}
use Rattle.cga_queue.proofs.Door.{on_ok}
use Rattle.cga_update.specs.Askers.{IsOneOf}
use Rattle.cga_update.specs.Follow.{IsRested}
use Rattle.cga_update.specs.Log.{created_of, drawn_of, removed_of}
use Rattle.cga_update.proofs.DueNodes.{one_each}
use Rattle.cga_update.proofs.Clearing.{followed_clear}
use Rattle.cga_update.proofs.Following.{followed_more, laters_of}
use Rattle.cga_update.proofs.turn.place.Goals as goal

pub follow-requires : goal.follow-requires
follow-requires g c = record { one = one_each c.replace_children.new.self c.laws.ensures }

pub returns-clause-placed : goal.returns-clause-placed
returns-clause-placed g c =
    let was = c.args.work.now in
    let done = c.in_ok-change.ensures in
    let less = c.forget_all.new.remembered in
    let removed = c.as_slice.ensures in
    let created = c.as_slice-2.ensures in
    let before = c.in_ok-note_removed.ensures in
    let after = c.in_ok-note_created.ensures in
    let follow = c.in_ok-follow.ensures in
    let v = c.replace_children.new.self in
    let change = c.in_ok-change.change in
    let id = c.args.id in
    let nobody = c.has_nobody_left-nobody.result in
    let both = c.needs_nobody-nobody.result in
    let needs = c.needs_nobody-nobody.ensures in
    let next = c.follow.new.agenda in
    let last = c.queue_rest.new.agenda in
    on_ok c.queue_rest.result
    (λ (rest : IsRested v id c.follow.new.remembered c.queue_rest.new.remembered was.all_queued c.queue_rest.new.all_queued next last). (
      change,
      record {
        replaced = done.replaced;
        unmarked = done.unmarked;
        removed = done.removed;
        created = done.created;
        nobody = nobody;
        nobody_left = c.has_nobody_left-nobody.ensures;
        less = less;
        forgot = subst (λ (moved : List NodeChange). (k : ℕ) → IsRemembered less k → IsRemembered was.remembered k × (IsOneOf moved k → ⊥)) c.as_slice-3.ensures c.forget_all.ensures;
        clear = c.still_clear-work.ensures;
        followed = λ are clear. followed_clear v id change nobody both c.still_clear-work.result was.agenda last needs clear
            (followed_more v id change both was.agenda next last (follow.followed are) rest.grows);
        remembered = λ are. rest.remembered (follow.remembered are);
        all_queued = λ are is. laters_of v id change both was.agenda next last was.all_queued (follow.followed are) (rest.all (follow.remembered are) is);
        log = after.log ∙ (λ i. before.log i ++ created_of c.as_slice-2.result.now) ∙ (λ i. (was.log.items ++ removed_of (removed i)) ++ created_of (created i));
        gone = before.gone ∙ (λ i. was.gone.items ++ drawn_of (removed i));
        come = after.come ∙ (λ i. was.come.items ++ drawn_of (created i));
        bounds = record {
          old = refl;
          new = refl;
          mode = done.mode;
          mark = done.mark;
          symbols = done.symbols;
          rules = refl;
          grammars = refl;
          priced = refl;
          last = refl;
        };
        forest = c.laws.ensures;
      },
    ))
    c.queue_rest.ensures

pub queue_rest-requires : goal.queue_rest-requires
queue_rest-requires g c = record { one = one_each c.replace_children.new.self c.laws.ensures }
