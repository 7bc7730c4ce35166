use Rattle.std.proofs.Common.{◌≡◌, subst}
use Rattle.std.specs.Io.KnownBytes.{Appends}
use Rattle.cga_script.specs.Lines.{Line}
use Rattle.cga_script.specs.Pending.{ready_line}
use Rattle.cga_top.specs.Prefixes.{AppendsSome}
use Rattle.cga_top.specs.Replies.{effect}
use Rattle.cga_top.specs.Session.{Did}
use Rattle.cga_top.proofs.Lived.{begun_none, begun_reply, same_line}
use Rattle.cga_top.proofs.pump.reply_as_text.Goals as goal

pub returns-in-Err-clause-err : goal.returns-in-Err-clause-err
returns-in-Err-clause-err g c = λ s told here. begun_none told s _ _

pub returns-in-Ok-write_all-clause-ok : goal.returns-in-Ok-write_all-clause-ok
returns-in-Ok-write_all-clause-ok g c = λ s at.
    let same = same_line c.args.lines.now _ _ c.line.ensures c.is_long.ensures in
    record {
      reply = c.in-Ok.reply;
      did = subst (λ (l : Line). Did (effect s l) c.args.session.now.city.changes c.do_line.new.session c.in-Ok.reply c.args.expansions.now c.do_line.new.expansions) same (c.in-Ok.ensures.did s at);
      written = subst (Appends (g.K.Sink.held c.args.out.now) (g.K.Sink.held c.write_all.new.out)) c.as_slice.ensures c.in-Ok-write_all.ensures.ok;
    }

pub returns-clause-err : goal.returns-clause-err
returns-clause-err g c = λ s told here.
    let line : Line = ready_line c.args.lines.now in
    let same = same_line c.args.lines.now _ _ c.line.ensures c.is_long.ensures in
    let did = subst (λ (l : Line). Did (effect s l) c.args.session.now.city.changes c.do_line.new.session c.in-Ok.reply c.args.expansions.now c.do_line.new.expansions) same (c.in-Ok.ensures.did s here.at) in
    begun_reply told s line c.args.session.now c.do_line.new.session c.in-Ok.reply _ _ here.forgot did _ _
    (subst (AppendsSome (g.K.Sink.held c.args.out.now) (g.K.Sink.held c.write_all.new.out)) c.as_slice.ensures c.in-Err-write_all.ensures.err)
