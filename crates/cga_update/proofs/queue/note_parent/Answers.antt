use Rattle.std.proofs.Common.{◌∙◌, sym}
use Rattle.cga_queue.proofs.Door.{on_ok}
use Rattle.cga_update.proofs.Nearby.{among_kept, no_parent, parent_among, parent_last}
use Rattle.cga_update.proofs.queue.note_parent.Goals as goal

pub returns-in-Some-clause-kept : goal.returns-in-Some-clause-kept
returns-in-Some-clause-kept c =
    on_ok c.push.result (λ e. among_kept c.args.parents.now c.push.new.self c.in-Some.parent e) c.push.ensures.ok

pub returns-in-Some-clause-there : goal.returns-in-Some-clause-there
returns-in-Some-clause-there c =
    on_ok c.push.result (λ e. parent_among c.args.forest.now c.args.id c.args.parents.now c.push.new.self c.in-Some.parent (sym c.parent.ensures ∙ c.in-Some.is) e) c.push.ensures.ok

pub returns-in-Some-clause-only : goal.returns-in-Some-clause-only
returns-in-Some-clause-only c =
    on_ok c.push.result (λ e. parent_last c.args.forest.now c.args.id c.args.parents.now c.push.new.self c.in-Some.parent (sym c.parent.ensures ∙ c.in-Some.is) e) c.push.ensures.ok

pub returns-in-None-clause-there : goal.returns-in-None-clause-there
returns-in-None-clause-there c = λ p w. absurd (no_parent c.args.forest.now c.args.id p (sym c.parent.ensures ∙ c.in-None.is) w)
