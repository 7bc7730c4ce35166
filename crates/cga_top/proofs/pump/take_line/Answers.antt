use Rattle.std.proofs.Common.{subst}
use Rattle.std.specs.Io.KnownBytes.{Appends}
use Rattle.cga_script.specs.Lines.{Line}
use Rattle.cga_script.specs.Pending.{ready_line}
use Rattle.cga_shape.specs.declared.changes.Changes.{Changes}
use Rattle.cga_top.specs.Prefixes.{AppendsSome}
use Rattle.cga_top.proofs.Lived.{begun_change, lived_line}
use Rattle.cga_top.specs.Replies.{effect}
use Rattle.cga_top.proofs.Faults.{faults_since}
use Rattle.cga_top.proofs.pump.take_line.Goals as goal

pub returns-clause-ok : goal.returns-clause-ok
returns-clause-ok g c = λ s here.
    let line : Line = ready_line c.args.lines.now in
    let done = c.in-Ok.ensures.ok s here.at in
    lived_line g.W.Talker.told s line c.args.session.now c.reply_line.new.session done.reply _ _ here.forgot done.did c.forget_changes.new.self _ (g.K.Sink.held c.reply_line.new.out) _
    done.written
    (subst (λ (k : Changes). Appends (g.K.Sink.held c.reply_line.new.out) (g.K.Sink.held c.tell.new.out) (g.W.Talker.told k)) c.changes.ensures c.in-Ok-tell.ensures.ok)
    (c.forget_changes.ensures.at (effect s line).state done.did.is_at) c.forget_changes.ensures.none

pub returns-in-Err-clause-err : goal.returns-in-Err-clause-err
returns-in-Err-clause-err g c = λ s here. c.in-Err.ensures.err s g.W.Talker.told here

pub returns-in-Err-tell-clause-err : goal.returns-in-Err-tell-clause-err
returns-in-Err-tell-clause-err g c = λ s here.
    let line : Line = ready_line c.args.lines.now in
    let done = c.in-Ok.ensures.ok s here.at in
    begun_change g.W.Talker.told s line c.args.session.now c.reply_line.new.session done.reply _ _ here.forgot done.did _ (g.K.Sink.held c.reply_line.new.out) _
    done.written
    (subst (λ (k : Changes). AppendsSome (g.K.Sink.held c.reply_line.new.out) (g.K.Sink.held c.tell.new.out) (g.W.Talker.told k)) c.changes.ensures c.in-Err-tell.ensures.err)

pub returns-in-Err-tell-clause-faults : goal.returns-in-Err-tell-clause-faults
returns-in-Err-tell-clause-faults g c = faults_since c.in-Err-tell.halt _ _ _ c.in-Ok.ensures.faults c.in-Err-tell.ensures.faults
