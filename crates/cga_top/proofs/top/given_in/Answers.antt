use Rattle.std.proofs.Common.{refl}
use Rattle.cga_top.specs.Runs.{sunk_in}
use Rattle.cga_top.proofs.Ends.{start_pending}
use Rattle.cga_top.proofs.Given.{given_done, given_halted}
use Rattle.cga_top.proofs.top.given_in.Goals as goal

pub take_all-requires-clause-lines : goal.take_all-requires-clause-lines
take_all-requires-clause-lines g c = start_pending _ c.in-Ok.ensures

pub returns-in-Ok-take_all-clause-means : goal.returns-in-Ok-take_all-clause-means
returns-in-Ok-take_all-clause-means g c =
    let f = c.flushed.ensures in
    given_done _ _ _ (sunk_in g.K.Sink c.args.out.now c.args.expansions.now) (sunk_in g.K.Sink c.take_all.new.out c.take_all.new.expansions) _ c.in-Ok-take_all.ensures.ok c.in-Ok-take_all.ensures.spent c.in-Ok-take_all.ensures.faults
    (record { source = record { given = refl; left = refl; ended = refl; reads = refl }; expanded = refl; held = f.bytes; answers = f.answers; done = f.done; fault = f.fault; calm = f.calm })

pub returns-clause-means : goal.returns-clause-means
returns-clause-means g c =
    given_halted _ _ c.in-Err-take_all.halt _ (sunk_in g.K.Sink c.args.out.now c.args.expansions.now) (sunk_in g.K.Sink c.take_all.new.out c.take_all.new.expansions) c.status_of.ensures.write c.status_of.ensures.memory c.in-Err-take_all.ensures.faults c.in-Err-take_all.ensures.err
