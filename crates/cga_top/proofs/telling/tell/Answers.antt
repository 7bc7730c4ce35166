use Rattle.std.proofs.Common.{refl, subst}
use Rattle.std.specs.Io.KnownBytes.{Appends}
use Rattle.cga_top.specs.Telling.{sunk_at}
use Rattle.cga_top.proofs.Tellings.{ToldBy, tell_done}
use Rattle.cga_top.proofs.telling.tell.Goals as goal

pub returns-in-Ok-write_all-clause-means : goal.returns-in-Ok-write_all-clause-means
returns-in-Ok-write_all-clause-means g c = λ o.
    let f = c.flushed.ensures in
    tell_done (ToldBy c.args.session.now) c.in-Ok.text _ (sunk_at g.K.Sink o c.args.out.now) (sunk_at g.K.Sink o c.write_all.new.out) (sunk_at g.K.Sink o c.flushed.new.out) c.in-Ok.ensures
    (subst (Appends (g.K.Sink.held c.args.out.now) (g.K.Sink.held c.write_all.new.out)) c.as_slice.ensures c.in-Ok-write_all.ensures.ok) c.in-Ok-write_all.ensures.cause.calm
    (record { source = record { given = refl; left = refl; ended = refl; reads = refl }; expanded = refl; held = f.bytes; answers = f.answers; done = f.done; fault = f.fault; calm = f.calm })
