use Rattle.std.proofs.Common.{[], ◌++◌, ◌∙◌}
use Rattle.cga_queue.proofs.Door.{all_kept, on_ok, on_ok_both}
use Rattle.cga_update.specs.Askers.{IsAsker, IsOneOf}
use Rattle.cga_update.specs.Queue.{chains_of}
use Rattle.cga_update.proofs.NearMoved.{asker_created, asker_removed}
use Rattle.cga_update.proofs.begin.queue_rooted.Goals as goal

pub returns-clause-moved : goal.returns-clause-moved
returns-clause-moved g c =
    let v = c.args.forest.now in
    let D = chains_of v in
    let removed = c.args.removed.now in
    let created = c.args.created.now in
    let two = c.queue_near.new.agenda in
    let three = c.queue_near-2.new.agenda in
    let mid = c.in_ok-queue_near.ensures in
    on_ok_both c.queue_near-2.result
    (λ grows there. record {
      roots = all_kept D (IsOneOf created) (IsAsker v created) two three grows
          (all_kept D (IsOneOf created) (IsAsker v (removed ++ [])) c.add_moved.new.agenda two mid.grows c.in_ok-add_moved.ensures.there);
      near_removed = all_kept D (IsAsker v removed) (IsAsker v created) two three grows (λ k p here. mid.there k (asker_removed v removed [] k p) here);
      near_created = there;
    })
    c.queue_near-2.ensures.grows c.queue_near-2.ensures.there

pub returns-clause-mode : goal.returns-clause-mode
returns-clause-mode g c =
    on_ok c.queue_near-2.result (λ grows. grows.mode ∙ (c.in_ok-queue_near.ensures.grows.mode ∙ c.in_ok-add_moved.ensures.grows.mode))
    c.queue_near-2.ensures.grows

pub returns-then-nobody-clause-moved : goal.returns-then-nobody-clause-moved
returns-then-nobody-clause-moved g c =
    let v = c.args.forest.now in
    let removed = c.args.removed.now in
    let created = c.args.created.now in
    let none = c.requires.nobody c.if-nobody.true in
    record {
      roots = c.in_ok-add_moved.ensures.there;
      near_removed = λ k p here. absurd (none k (asker_removed v removed created k p));
      near_created = λ k p here. absurd (none k (asker_created v removed created k p));
    }

pub returns-then-nobody-clause-mode : goal.returns-then-nobody-clause-mode
returns-then-nobody-clause-mode g c = c.in_ok-add_moved.ensures.grows.mode
