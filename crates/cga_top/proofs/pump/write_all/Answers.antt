use Rattle.std.proofs.Common.{◌∙◌}
use Rattle.cga_top.proofs.Known.{appends_so_far, appends_piece}
use Rattle.cga_top.proofs.pump.write_all.Goals as goal

pub loop-rest-preserved : goal.loop-rest-preserved
loop-rest-preserved g c =
    let inv = c.loop-rest.invariant in let w = c.in-Ok.ensures in
    record {
      calm = w.cause.calm ∙ inv.calm;
      bytes = appends_piece _ _ _ _ _ _ _ _ inv.bytes.1 inv.bytes.2 w.bytes c.split_at.ensures.back;
    }

pub returns-in-Err-clause-err : goal.returns-in-Err-clause-err
returns-in-Err-clause-err g c = appends_so_far _ _ _ _ _ _ c.loop-rest.invariant.bytes.1 c.loop-rest.invariant.bytes.2 c.in-Err.ensures.bytes
