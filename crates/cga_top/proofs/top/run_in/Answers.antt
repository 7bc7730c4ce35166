use Rattle.std.proofs.Common.{ap, refl}
use Rattle.cga_top.specs.Outside.{outside_of}
use Rattle.cga_top.proofs.Ends.{came_to, done_means, end_some, failed_means, halted_means, halted_some, none_means, start_pending, too_long_means}
use Rattle.cga_top.proofs.Faults.{faults_since}
use Rattle.cga_top.proofs.Complete.{talk_complete, not_used, done_not_used, read_not_used, long_not_used, not_done, read_not_done, long_not_done}
use Rattle.cga_top.proofs.top.run_in.Goals as goal

pub read_lines-requires-clause-lines : goal.read_lines-requires-clause-lines
read_lines-requires-clause-lines g c = start_pending _ c.in-Ok.ensures

pub returns-in-Err-clause-means : goal.returns-in-Err-clause-means
returns-in-Err-clause-means g c =
    none_means g.W.Talker.told _ (outside_of g.S.Source g.K.Sink c.args.script.now c.args.out.now c.args.expansions.now)

pub returns-in-Ok-end_script-clause-means : goal.returns-in-Ok-end_script-clause-means
returns-in-Ok-end_script-clause-means g c =
    let r = c.in-Ended.ensures.end in
    let q = c.in-Ok-end_script.ensures.ok _ _ r.1.lived.here (ap (λ p. p.kept) r.1.lines_are) in
    let f = c.flushed.ensures in
    let last = outside_of g.S.Source g.K.Sink c.read_lines.new.script c.end_script.new.out c.end_script.new.expansions in
    done_means g.W.Talker.told _ r.0 _ _ _ _ r.1 r.2 r.3 _ _ last _ r.4 r.5 q (record { given = refl; left = refl; ended = refl; reads = refl }) c.in-Ok-end_script.ensures.faults
    (record { source = record { given = refl; left = refl; ended = refl; reads = refl }; expanded = refl; held = f.bytes; answers = f.answers; done = f.done; fault = f.fault; calm = f.calm })

pub returns-in-Ended-clause-means : goal.returns-in-Ended-clause-means
returns-in-Ended-clause-means g c =
    let r = c.in-Ended.ensures.end in
    let u = c.in-Err-end_script.ensures.err _ _ r.1.lived.here (ap (λ p. p.kept) r.1.lines_are) in
    halted_means g.W.Talker.told _ c.in-Err-end_script.halt _ _ _ c.status_of.ensures.write c.status_of.ensures.memory
    (faults_since c.in-Err-end_script.halt _ _ _ r.1.calm c.in-Err-end_script.ensures.faults) r.5
    (end_some g.W.Talker.told _ r.0 _ _ _ _ r.1 r.2 r.3 (outside_of g.S.Source g.K.Sink c.read_lines.new.script c.end_script.new.out c.end_script.new.expansions)
    (record { given = refl; left = refl; ended = refl; reads = refl }) u)

pub returns-in-Failed-clause-means : goal.returns-in-Failed-clause-means
returns-in-Failed-clause-means g c =
    let r = c.in-Failed.ensures.end in
    let f = c.flushed-in-Failed.ensures in
    failed_means g.W.Talker.told _ _ _ _ _ _ _ r.0 r.1 r.2 r.3
    (record { source = record { given = refl; left = refl; ended = refl; reads = refl }; expanded = refl; held = f.bytes; answers = f.answers; done = f.done; fault = f.fault; calm = f.calm })

pub returns-in-TooLong-clause-means : goal.returns-in-TooLong-clause-means
returns-in-TooLong-clause-means g c =
    let r = c.in-TooLong.ensures.end in
    let f = c.flushed-in-TooLong.ensures in
    too_long_means g.W.Talker.told _ _ _ _ _ _ _ r.0 r.1 r.2 r.3 r.4
    (record { source = record { given = refl; left = refl; ended = refl; reads = refl }; expanded = refl; held = f.bytes; answers = f.answers; done = f.done; fault = f.fault; calm = f.calm })

pub returns-clause-means : goal.returns-clause-means
returns-clause-means g c =
    let r = c.in-Halted.ensures.end in
    halted_means g.W.Talker.told _ c.in-Halted.halt _ _ _ c.status_of-in-Halted.ensures.write c.status_of-in-Halted.ensures.memory r.2 r.1.calm (halted_some g.W.Talker.told _ r.0 _ _ r.1)

pub returns-in-Ok-end_script-clause-complete : goal.returns-in-Ok-end_script-clause-complete
returns-in-Ok-end_script-clause-complete g c = λ few calm silent. talk_complete _ _ _ _ _ (returns-in-Ok-end_script-clause-means g c) few calm silent (not_used _ _ c.flushed.ensures.answers done_not_used)

pub returns-in-Ended-clause-complete : goal.returns-in-Ended-clause-complete
returns-in-Ended-clause-complete g c = λ few calm silent. talk_complete _ _ _ _ _ (returns-in-Ended-clause-means g c) few calm silent c.status_of.ensures.used

pub returns-in-Failed-clause-complete : goal.returns-in-Failed-clause-complete
returns-in-Failed-clause-complete g c = λ few calm silent. talk_complete _ _ _ _ _ (returns-in-Failed-clause-means g c) few calm silent (not_used _ _ c.flushed-in-Failed.ensures.answers read_not_used)

pub returns-in-TooLong-clause-complete : goal.returns-in-TooLong-clause-complete
returns-in-TooLong-clause-complete g c = λ few calm silent. talk_complete _ _ _ _ _ (returns-in-TooLong-clause-means g c) few calm silent (not_used _ _ c.flushed-in-TooLong.ensures.answers long_not_used)

pub returns-clause-complete : goal.returns-clause-complete
returns-clause-complete g c = λ few calm silent. talk_complete _ _ _ _ _ (returns-clause-means g c) few calm silent c.status_of-in-Halted.ensures.used

pub returns-in-TooLong-clause-used : goal.returns-in-TooLong-clause-used
returns-in-TooLong-clause-used g c = not_used _ _ c.flushed-in-TooLong.ensures.answers long_not_used

pub returns-in-Ok-end_script-clause-used : goal.returns-in-Ok-end_script-clause-used
returns-in-Ok-end_script-clause-used g c = not_used _ _ c.flushed.ensures.answers done_not_used

pub returns-in-Failed-clause-used : goal.returns-in-Failed-clause-used
returns-in-Failed-clause-used g c = not_used _ _ c.flushed-in-Failed.ensures.answers read_not_used

pub returns-in-Ok-end_script-clause-came : goal.returns-in-Ok-end_script-clause-came
returns-in-Ok-end_script-clause-came g c =
    let r = c.in-Ended.ensures.end in
    let q = c.in-Ok-end_script.ensures.ok _ _ r.1.lived.here (ap (λ p. p.kept) r.1.lines_are) in
    λ done. came_to g.W.Talker.told _ r.0 _ (outside_of g.S.Source g.K.Sink c.read_lines.new.script c.read_lines.new.out c.read_lines.new.expansions) _ _ _ r.1 r.2 q.at

pub returns-in-Ended-clause-came : goal.returns-in-Ended-clause-came
returns-in-Ended-clause-came g c = λ done. absurd (c.status_of.ensures.done done)

pub returns-in-Failed-clause-came : goal.returns-in-Failed-clause-came
returns-in-Failed-clause-came g c = λ done. absurd (not_done _ _ c.flushed-in-Failed.ensures.answers read_not_done done)

pub returns-in-TooLong-clause-came : goal.returns-in-TooLong-clause-came
returns-in-TooLong-clause-came g c = λ done. absurd (not_done _ _ c.flushed-in-TooLong.ensures.answers long_not_done done)

pub returns-clause-came : goal.returns-clause-came
returns-clause-came g c = λ done. absurd (c.status_of-in-Halted.ensures.done done)

pub returns-in-Ok-end_script-clause-warm : goal.returns-in-Ok-end_script-clause-warm
returns-in-Ok-end_script-clause-warm g c =
    let r = c.in-Ended.ensures.end in
    let q = c.in-Ok-end_script.ensures.ok _ _ r.1.lived.here (ap (λ p. p.kept) r.1.lines_are) in
    λ done. q.at.warm

pub returns-in-Ended-clause-warm : goal.returns-in-Ended-clause-warm
returns-in-Ended-clause-warm g c = λ done. absurd (c.status_of.ensures.done done)

pub returns-in-Failed-clause-warm : goal.returns-in-Failed-clause-warm
returns-in-Failed-clause-warm g c = λ done. absurd (not_done _ _ c.flushed-in-Failed.ensures.answers read_not_done done)

pub returns-in-TooLong-clause-warm : goal.returns-in-TooLong-clause-warm
returns-in-TooLong-clause-warm g c = λ done. absurd (not_done _ _ c.flushed-in-TooLong.ensures.answers long_not_done done)

pub returns-clause-warm : goal.returns-clause-warm
returns-clause-warm g c = λ done. absurd (c.status_of-in-Halted.ensures.done done)
